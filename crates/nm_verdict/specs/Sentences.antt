-- The words of each rule (MPI 3.1, chapter 3).
use Rattle.std.specs.Prelude.{ℕ, List, codes}
use Rattle.nm_script.specs.declared.faults.Kind.{Kind}
use Rattle.nm_script.specs.declared.faults.Kind.TheVariants as kind
use Rattle.nm_breaks.specs.declared.stops.Stop.{Stop}
use Rattle.nm_breaks.specs.declared.stops.Stop.TheVariants as stop
use Rattle.nm_check_rank.specs.declared.clauses.OwnClause.{OwnClause}
use Rattle.nm_check_rank.specs.declared.clauses.OwnClause.TheVariants as own
use Rattle.nm_check.specs.declared.clauses.CarriedClause.{CarriedClause}
use Rattle.nm_check.specs.declared.clauses.CarriedClause.TheVariants as carried
use Rattle.nm_check.specs.declared.rest.clauses.RestClause.{RestClause}
use Rattle.nm_check.specs.declared.rest.clauses.RestClause.TheVariants as rest
use Rattle.nm_check.specs.declared.rest.firsts.EventRule.{EventRule}
use Rattle.nm_check.specs.declared.rest.firsts.EventRule.TheVariants as left

-- the rule of a rank's own run
abbrev pub own_words : OwnClause → List ℕ
own_words own.Stamps =
    codes "the stamps of a rank are at least 1 and rise, and this one is not greater than the one before"
own_words own.Numbers =
    codes "the sends to each rank, the arrivals from each and the receives are numbered from 0, and this number is not the next, or the rank is none of the script's (MPI 3.1, 3.5)"
own_words own.Claims =
    codes "a matched probe that shows a message has its one claim, of the first free message that it selects, and there is no other claim (MPI 3.1, 3.8.2)"
own_words own.Starts =
    codes "a start that was taken has its one send or receive since the answer before, with the arguments of its line, by rendezvous exactly where it is synchronous or longer than --eager says, and there is no other (MPI 3.1, 3.2, 3.4 and 3.7.2)"
own_words own.Cancels =
    codes "a cancel has its one event since the answer before, and there is no other, and that of a receive is done exactly where the receive has no message (MPI 3.1, 3.8.4)"
own_words own.Wholes =
    codes "a message is whole once, after it came, and after a receive took it where it was sent by rendezvous (MPI 3.1, 3.4 and 3.7.3)"
own_words own.Ends =
    codes "a message leaves once, after its send, is withdrawn once, after it came, done exactly where it is free, and a recall is answered once (MPI 3.1, 3.7.3 and 3.8.4)"
own_words own.Answers =
    codes "the commands of a rank run in order, each with the answer that matching gives it on the events before (MPI 3.1, 3.5, 3.7.3 and 3.8)"

-- the rule of the messages from one rank to another
abbrev pub carried_words : CarriedClause → List ℕ
carried_words carried.Messages =
    codes "the messages that came are the first that were sent, in order, each with its envelope and a greater stamp (MPI 3.1, 3.5)"
carried_words carried.Bodies =
    codes "a receive shows the body of the send that it is paired with (MPI 3.1, 3.2.4)"
carried_words carried.Outs =
    codes "a message that was sent by rendezvous leaves only after a receive took it, by stamps (MPI 3.1, 3.4)"
carried_words carried.Withdrawals =
    codes "a withdrawal comes after its recall, and the answer to a recall after its withdrawal, with the same word (MPI 3.1, 3.8.4)"

-- the rule of all ranks at rest
abbrev pub rest_words : RestClause → List ℕ
rest_words rest.Arrived =
    codes "all that was sent has come (MPI 3.1, 3.5)"
rest_words rest.Eager =
    codes "each message that was sent eagerly has left and is whole (MPI 3.1, 3.4)"
rest_words rest.Asked =
    codes "each message that was sent by rendezvous and that a receive took has left and is whole, and one that is claimed alone has done neither (MPI 3.1, 3.4 and 3.8.2)"
rest_words rest.Recalls =
    codes "each recall is answered (MPI 3.1, 3.8.4)"
rest_words rest.Waits =
    codes "each rank is at its end, or waits at its next command, which can't go on (MPI 3.1, 3.7.3 and 3.8.1)"
rest_words rest.Counts =
    codes "the counts of packets are those that the events call for"

-- what is left of an event in the end
abbrev pub left_words : EventRule → List ℕ
left_words left.Arrived =
    codes "it never came"
left_words left.Eager =
    codes "it never left, or was never whole"
left_words left.Asked =
    codes "a receive took it, and it never left or was never whole; or it is claimed alone, and did"
left_words left.Recalls =
    codes "it was never answered"

-- why a line is none of a script
abbrev pub kind_words : Kind → List ℕ
kind_words kind.TooLong =
    codes "the script is longer than 8,388,608 bytes"
kind_words kind.NotAscii =
    codes "it has a byte that is no printable character of ASCII"
kind_words kind.Lines =
    codes "a script has at most 65,536 lines"
kind_words kind.First =
    codes "the first line is to be `ranks N`"
kind_words kind.Rank =
    codes "it is to begin with a rank of the script and a colon"
kind_words kind.Command =
    codes "there is no such command"
kind_words kind.Count =
    codes "the command has another number of arguments"
kind_words kind.Number =
    codes "an argument is no number of its range"
kind_words kind.Body =
    codes "the body is not spelled right, or is too long"
kind_words kind.BodyTotal =
    codes "all bodies up to here are longer than 67,108,864 bytes"

-- what stops a text that is no trace
abbrev pub stop_words : Stop → List ℕ
stop_words stop.Short =
    codes "the trace ends too soon"
stop_words stop.Unfed =
    codes "the last line has no line feed"
stop_words stop.Order =
    codes "it is out of order"
stop_words stop.Number =
    codes "a number in it is out of range"
stop_words stop.Event =
    codes "there is no such event"
stop_words stop.Report =
    codes "the report of the events above does not go on so"
stop_words stop.Line =
    codes "no trace begins so"
