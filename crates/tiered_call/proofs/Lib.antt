mod Audited
mod Numerals
mod Refused
mod Refusing
mod Running
mod Telling
mod Threaded
