-- what holds of ranks at their places, and of what is recorded of them
mod Places
-- the laws
mod Rest
mod Turns
pub mod Packets
mod Offers
mod Steps
mod Destinations
mod Pieces
mod Calls
mod Numbered
mod Taken
mod Sending
mod Leaving
mod Pushing
-- what a log shows, and who took a message, after more
pub mod Shown
mod Receives
-- the parts of the relation, one moment more
mod LogTaken
mod Bytes
mod Requests
-- one message, one receive
mod Once
-- the laws
mod Moments
mod Results
mod LogCalls
-- what stays the same
mod Still
