-- histories all of whose events are of lines below one
mod Below
-- commands of later lines change nothing
mod Later
mod LaterSent
-- one call more
mod Longer
-- the calls that were given
mod Given
