-- ranks of a world, at its start
mod Beginning
-- and at its end
mod Ending
-- a call that ran
mod Running
