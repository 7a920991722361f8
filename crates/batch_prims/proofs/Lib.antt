mod Linear
mod Taking
mod Braiding
mod Entries
mod Groups
mod Written
mod Spellings
mod Causes
