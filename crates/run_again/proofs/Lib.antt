mod Handing
mod Refused
