mod Coded
mod Ends
mod Long
mod Methods
mod Numbers
mod Once
mod Queries
mod Splits
