-- Two structs are the same where the `==` that is derived for them says so.
use Rattle.std.proofs.Common.{◌≡◌, Bool, true, false, ◌&&◌, List, [], ◌∷◌, ℕ, Option, None, Some, nat_eq, refl, ap, arith}
use Rattle.std.proofs.Math.Bool.{beq}
use Rattle.std.proofs.lemmas.Bool.{eqb-true, and_parts}
use Rattle.std.specs.Option.{option_eq}
use Rattle.cpu_access.specs.declared.stack.Write.{Write}
use Rattle.r6501q_state.specs.declared.state.Cpu.{Cpu}
use Rattle.r6501q_state.specs.declared.state.Due.{Due}
use Rattle.r6501q_state.specs.declared.state.Ports.{Ports}
use Rattle.r6501q_state.specs.declared.state.Control.{Control}
use Rattle.r6501q_state.specs.declared.state.SerialData.{SerialData}
use Rattle.counters.specs.declared.a.CounterA.{CounterA}
use Rattle.counters.specs.declared.b.CounterB.{CounterB}
use Rattle.serial_transmitter.specs.declared.Transmitter.{Transmitter}
use Rattle.serial_receiver.specs.declared.Receiver.{Receiver}
use Rattle.r6501q_state.specs.declared.state.Levels.{Levels}
use Rattle.r6501q_state.specs.declared.state.Peripherals.{Peripherals}
use Rattle.r6501q_state.specs.declared.state.State.{State}

-- ---- tests of fields, one before the other

-- two fields that are compared
pub data Pair : Type 0 where
  numbers : ℕ → ℕ → Pair
  flags : Bool → Bool → Pair
  tested : Bool → Pair

abbrev pub test_of : Pair → Bool
test_of (numbers a b) = nat_eq a b
test_of (flags a b) = beq a b
test_of (tested t) = t

-- as a derive joins the tests
abbrev pub tests_of : List Pair → Bool
tests_of [] = true
tests_of (p ∷ []) = test_of p
tests_of (p ∷ q ∷ ps) = test_of p && tests_of (q ∷ ps)

abbrev Equal : Pair → Type 0
Equal (numbers a b) = a ≡ b
Equal (flags a b) = a ≡ b
Equal (tested t) = t ≡ true

abbrev AllEqual : List Pair → Type 0
AllEqual [] = Unit {0}
AllEqual (p ∷ ps) = Equal p × AllEqual ps

never : ◌≡◌ {A = Bool} false true → ⊥
never e = let n : ◌≡◌ {A = ℕ} 0 1 = cc in omega arith

beq_true : (a b : Bool) → beq a b ≡ true → a ≡ b
beq_true true true e = refl
beq_true false false e = refl
beq_true true false e = absurd (never e)
beq_true false true e = absurd (never e)

equal : (p : Pair) → test_of p ≡ true → Equal p
equal (numbers a b) e = eqb-true a b e
equal (flags a b) e = beq_true a b e
equal (tested t) e = e

all : (ps : List Pair) → tests_of ps ≡ true → AllEqual ps
all [] e = tt
all (p ∷ []) e = (equal p e, tt)
all (p ∷ q ∷ ps) e =
    let parts = and_parts (test_of p) (tests_of (q ∷ ps)) e in
    (equal p parts.0, all (q ∷ ps) parts.1)

-- ---- structs

abbrev write_pairs : Write → Write → List Pair
write_pairs a b = numbers a.address b.address ∷ numbers a.value b.value ∷ []

abbrev write_test : Write → Write → Bool
write_test a b = tests_of (write_pairs a b)

write_same : (a b : Write) → write_test a b ≡ true → a ≡ b
write_same a b e =
    let fields = all (write_pairs a b) e in
    let whole : ◌≡◌ {A = Write} (record { address = a.address; value = a.value })
    (record { address = b.address; value = b.value }) = cc in
    whole

abbrev waiting_test : Option Write → Option Write → Bool
waiting_test a b = option_eq write_test a b

waiting_same : (a b : Option Write) → waiting_test a b ≡ true → a ≡ b
waiting_same None None e = refl
waiting_same None (Some w) e = absurd (never e)
waiting_same (Some v) None e = absurd (never e)
waiting_same (Some v) (Some w) e = ap Some (write_same v w e)

abbrev due_pairs : Due → Due → List Pair
due_pairs a b = flags a.reset b.reset ∷ flags a.nmi b.nmi ∷ []

abbrev due_test : Due → Due → Bool
due_test a b = tests_of (due_pairs a b)

due_same : (a b : Due) → due_test a b ≡ true → a ≡ b
due_same a b e =
    let fields = all (due_pairs a b) e in
    let whole : ◌≡◌ {A = Due} (record { reset = a.reset; nmi = a.nmi })
    (record { reset = b.reset; nmi = b.nmi }) = cc in
    whole

abbrev ports_pairs : Ports → Ports → List Pair
ports_pairs a b = numbers a.a b.a ∷ numbers a.b b.b ∷ numbers a.c b.c ∷ numbers a.d b.d ∷ []

abbrev ports_test : Ports → Ports → Bool
ports_test a b = tests_of (ports_pairs a b)

ports_same : (a b : Ports) → ports_test a b ≡ true → a ≡ b
ports_same a b e =
    let fields = all (ports_pairs a b) e in
    let whole : ◌≡◌ {A = Ports} (record { a = a.a; b = a.b; c = a.c; d = a.d })
    (record { a = b.a; b = b.b; c = b.c; d = b.d }) = cc in
    whole

abbrev control_pairs : Control → Control → List Pair
control_pairs a b =
    numbers a.ifr b.ifr ∷ numbers a.ier b.ier ∷ numbers a.mcr b.mcr ∷ numbers a.sccr b.sccr
    ∷ numbers a.scsr b.scsr ∷ []

abbrev control_test : Control → Control → Bool
control_test a b = tests_of (control_pairs a b)

control_same : (a b : Control) → control_test a b ≡ true → a ≡ b
control_same a b e =
    let fields = all (control_pairs a b) e in
    let whole : ◌≡◌ {A = Control} (record { ifr = a.ifr; ier = a.ier; mcr = a.mcr; sccr = a.sccr; scsr = a.scsr })
    (record { ifr = b.ifr; ier = b.ier; mcr = b.mcr; sccr = b.sccr; scsr = b.scsr }) = cc in
    whole

abbrev serial_data_pairs : SerialData → SerialData → List Pair
serial_data_pairs a b = numbers a.sent b.sent ∷ numbers a.received b.received ∷ []

abbrev serial_data_test : SerialData → SerialData → Bool
serial_data_test a b = tests_of (serial_data_pairs a b)

serial_data_same : (a b : SerialData) → serial_data_test a b ≡ true → a ≡ b
serial_data_same a b e =
    let fields = all (serial_data_pairs a b) e in
    let whole : ◌≡◌ {A = SerialData} (record { sent = a.sent; received = a.received })
    (record { sent = b.sent; received = b.received }) = cc in
    whole

abbrev counter_a_pairs : CounterA → CounterA → List Pair
counter_a_pairs a b = numbers a.count b.count ∷ numbers a.latch b.latch ∷ []

abbrev counter_a_test : CounterA → CounterA → Bool
counter_a_test a b = tests_of (counter_a_pairs a b)

counter_a_same : (a b : CounterA) → counter_a_test a b ≡ true → a ≡ b
counter_a_same a b e =
    let fields = all (counter_a_pairs a b) e in
    let whole : ◌≡◌ {A = CounterA} (record { count = a.count; latch = a.latch })
    (record { count = b.count; latch = b.latch }) = cc in
    whole

abbrev counter_b_pairs : CounterB → CounterB → List Pair
counter_b_pairs a b =
    numbers a.count b.count ∷ numbers a.latchb b.latchb ∷ numbers a.latchc b.latchc ∷ flags a.turnc b.turnc ∷ []

abbrev counter_b_test : CounterB → CounterB → Bool
counter_b_test a b = tests_of (counter_b_pairs a b)

counter_b_same : (a b : CounterB) → counter_b_test a b ≡ true → a ≡ b
counter_b_same a b e =
    let fields = all (counter_b_pairs a b) e in
    let whole : ◌≡◌ {A = CounterB} (record { count = a.count; latchb = a.latchb; latchc = a.latchc; turnc = a.turnc })
    (record { count = b.count; latchb = b.latchb; latchc = b.latchc; turnc = b.turnc }) = cc in
    whole

abbrev transmitter_pairs : Transmitter → Transmitter → List Pair
transmitter_pairs a b = numbers a.left b.left ∷ numbers a.phase b.phase ∷ numbers a.register b.register ∷ []

abbrev transmitter_test : Transmitter → Transmitter → Bool
transmitter_test a b = tests_of (transmitter_pairs a b)

transmitter_same : (a b : Transmitter) → transmitter_test a b ≡ true → a ≡ b
transmitter_same a b e =
    let fields = all (transmitter_pairs a b) e in
    let whole : ◌≡◌ {A = Transmitter} (record { left = a.left; phase = a.phase; register = a.register })
    (record { left = b.left; phase = b.phase; register = b.register }) = cc in
    whole

abbrev receiver_pairs : Receiver → Receiver → List Pair
receiver_pairs a b =
    numbers a.subinterval b.subinterval ∷ flags a.half b.half ∷ numbers a.left b.left
    ∷ numbers a.register b.register ∷ []

abbrev receiver_test : Receiver → Receiver → Bool
receiver_test a b = tests_of (receiver_pairs a b)

receiver_same : (a b : Receiver) → receiver_test a b ≡ true → a ≡ b
receiver_same a b e =
    let fields = all (receiver_pairs a b) e in
    let whole : ◌≡◌ {A = Receiver}
    (record { subinterval = a.subinterval; half = a.half; left = a.left; register = a.register })
    (record { subinterval = b.subinterval; half = b.half; left = b.left; register = b.register }) = cc in
    whole

abbrev levels_pairs : Levels → Levels → List Pair
levels_pairs a b = numbers a.ports b.ports ∷ flags a.nmi b.nmi ∷ flags a.res b.res ∷ []

abbrev levels_test : Levels → Levels → Bool
levels_test a b = tests_of (levels_pairs a b)

levels_same : (a b : Levels) → levels_test a b ≡ true → a ≡ b
levels_same a b e =
    let fields = all (levels_pairs a b) e in
    let whole : ◌≡◌ {A = Levels} (record { ports = a.ports; nmi = a.nmi; res = a.res })
    (record { ports = b.ports; nmi = b.nmi; res = b.res }) = cc in
    whole

-- ---- structs of structs

abbrev cpu_pairs : Cpu → Cpu → List Pair
cpu_pairs a b =
    numbers a.a b.a ∷ numbers a.x b.x ∷ numbers a.y b.y ∷ numbers a.sp b.sp ∷ numbers a.p b.p
    ∷ numbers a.pc b.pc ∷ numbers a.wait b.wait ∷ tested (waiting_test a.waiting b.waiting) ∷ []

abbrev cpu_test : Cpu → Cpu → Bool
cpu_test a b = tests_of (cpu_pairs a b)

cpu_same : (a b : Cpu) → cpu_test a b ≡ true → a ≡ b
cpu_same a b e =
    let fields = all (cpu_pairs a b) e in
    let waiting' = waiting_same a.waiting b.waiting fields.1.1.1.1.1.1.1.0 in
    let whole : ◌≡◌ {A = Cpu}
    (record { a = a.a; x = a.x; y = a.y; sp = a.sp; p = a.p; pc = a.pc; wait = a.wait; waiting = a.waiting })
    (record { a = b.a; x = b.x; y = b.y; sp = b.sp; p = b.p; pc = b.pc; wait = b.wait; waiting = b.waiting }) = cc in
    whole

abbrev peripherals_pairs : Peripherals → Peripherals → List Pair
peripherals_pairs a b =
    tested (ports_test a.ports b.ports) ∷ tested (counter_a_test a.countera b.countera)
    ∷ tested (counter_b_test a.counterb b.counterb) ∷ tested (control_test a.control b.control)
    ∷ tested (serial_data_test a.serial b.serial) ∷ tested (transmitter_test a.transmitter b.transmitter)
    ∷ tested (receiver_test a.receiver b.receiver) ∷ []

abbrev peripherals_test : Peripherals → Peripherals → Bool
peripherals_test a b = tests_of (peripherals_pairs a b)

peripherals_same : (a b : Peripherals) → peripherals_test a b ≡ true → a ≡ b
peripherals_same a b e =
    let fields = all (peripherals_pairs a b) e in
    let ports' = ports_same a.ports b.ports fields.0 in
    let countera' = counter_a_same a.countera b.countera fields.1.0 in
    let counterb' = counter_b_same a.counterb b.counterb fields.1.1.0 in
    let control' = control_same a.control b.control fields.1.1.1.0 in
    let serial' = serial_data_same a.serial b.serial fields.1.1.1.1.0 in
    let transmitter' = transmitter_same a.transmitter b.transmitter fields.1.1.1.1.1.0 in
    let receiver' = receiver_same a.receiver b.receiver fields.1.1.1.1.1.1.0 in
    let whole : ◌≡◌ {A = Peripherals} (record {
      ports = a.ports;
      countera = a.countera;
      counterb = a.counterb;
      control = a.control;
      serial = a.serial;
      transmitter = a.transmitter;
      receiver = a.receiver;
    }) (record {
      ports = b.ports;
      countera = b.countera;
      counterb = b.counterb;
      control = b.control;
      serial = b.serial;
      transmitter = b.transmitter;
      receiver = b.receiver;
    }) = cc in
    whole

abbrev state_pairs : State → State → List Pair
state_pairs a b =
    tested (cpu_test a.cpu b.cpu) ∷ tested (due_test a.due b.due)
    ∷ tested (peripherals_test a.peripherals b.peripherals) ∷ tested (levels_test a.external b.external)
    ∷ tested (levels_test a.last b.last) ∷ numbers a.clock b.clock ∷ []

abbrev state_test : State → State → Bool
state_test a b = tests_of (state_pairs a b)

pub state_same : (a b : State) → state_test a b ≡ true → a ≡ b
state_same a b e =
    let fields = all (state_pairs a b) e in
    let cpu' = cpu_same a.cpu b.cpu fields.0 in
    let due' = due_same a.due b.due fields.1.0 in
    let peripherals' = peripherals_same a.peripherals b.peripherals fields.1.1.0 in
    let external' = levels_same a.external b.external fields.1.1.1.0 in
    let last' = levels_same a.last b.last fields.1.1.1.1.0 in
    let whole : ◌≡◌ {A = State} (record {
      cpu = a.cpu;
      due = a.due;
      peripherals = a.peripherals;
      external = a.external;
      last = a.last;
      clock = a.clock;
    }) (record {
      cpu = b.cpu;
      due = b.due;
      peripherals = b.peripherals;
      external = b.external;
      last = b.last;
      clock = b.clock;
    }) = cc in
    whole
