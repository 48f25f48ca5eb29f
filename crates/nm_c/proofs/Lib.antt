-- a rank and its parts as a box
mod AsBox
-- the handles behind ranks
mod Behind
-- bytes over others
mod Overlay
-- why a call was refused
mod Reasons
-- codes of faults
mod Refused
-- handles taken from ranks
mod Taken
-- ranks that make turns
mod Turned
