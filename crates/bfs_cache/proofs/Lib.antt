mod Agreeing
mod Entries
mod Views
