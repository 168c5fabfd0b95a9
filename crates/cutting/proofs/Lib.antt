mod Cutting
mod Withdrawing
