mod Printed
mod Lookups
mod Places
mod Forms
mod Openings
mod Children
mod Entries
mod Trees
