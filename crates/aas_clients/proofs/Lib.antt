mod Clients
mod Kept
mod Lowest
mod Places
mod Tables
mod Wholes
