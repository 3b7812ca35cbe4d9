mod Walking
mod Rounds
mod Keeping
