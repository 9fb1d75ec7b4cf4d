pub mod SteadyAddresses
pub mod SteadyReads
pub mod KnownOutcomes
