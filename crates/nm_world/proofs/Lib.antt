-- an actor at its start
mod Begins
-- what there is to tell
pub mod Accounts
-- what is counted between two ranks
mod Counted
-- players, and lists of them
mod Told
mod Playing
pub mod Runs
-- a run at rest
mod AtRest
-- what grows
mod Entries
mod Grows
-- whether something was done
mod Did
-- why nothing was
mod Idle
-- what a step moves
mod Moves
-- sweeps over players
mod Sweeps
-- loops over steps
mod Loops
-- how often an actor polled
mod Looks
-- two lists
mod Lists
-- lists that are chosen place by place
mod Chosen
-- what a call answered
mod Results
-- what each step keeps
mod Steps
mod Leaves
-- a whole turn
mod Turn
-- where the commands of each rank stand
pub mod ByRank
