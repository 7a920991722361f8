pub mod ColdStates
