mod Ends
mod Inverting
mod Standing
mod Again
mod OneSpelling
mod Faults
mod FieldFaults
mod FirstFault
