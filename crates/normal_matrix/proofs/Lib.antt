pub mod EnergyForm
pub mod SumSteps
pub mod RowSteps
pub mod PlanSteps
