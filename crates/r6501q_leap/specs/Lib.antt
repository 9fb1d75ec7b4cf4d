pub mod RunInCode
