mod BehindPaths
mod Canonical
mod Levels
mod Once
mod Payloads
mod Places
mod Same
mod Values
