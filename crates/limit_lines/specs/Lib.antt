pub mod LimitText
