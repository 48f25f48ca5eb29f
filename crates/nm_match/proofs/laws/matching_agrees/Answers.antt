-- Each field is a lemma.
use Rattle.nm_match.proofs.StandsLemmas.{is_known_message-stands, cancelled-stands, first_message-stands}
use Rattle.nm_match.proofs.StandsLemmas.{first_receive-stands, is_claimed-stands, is_free_message-stands}
use Rattle.nm_match.proofs.StandsLemmas.{is_open-stands, is_known_receive-stands, message_of-stands}
use Rattle.nm_match.proofs.StandsLemmas.{paired-stands, taken-stands}
use Rattle.nm_match.proofs.laws.matching_agrees.Goals as goal

pub returns : goal.returns
returns c deeds h stands = record {
  message = first_message-stands deeds h stands;
  receive = first_receive-stands deeds h stands;
  free = is_free_message-stands deeds h stands;
  claimed = is_claimed-stands deeds h stands;
  open_receive = is_open-stands deeds h stands;
  paired = paired-stands deeds h stands;
  taken = taken-stands deeds h stands;
  cancelled = cancelled-stands deeds h stands;
  known_receive = is_known_receive-stands deeds h stands;
  known_message = is_known_message-stands deeds h stands;
  message_named = message_of-stands deeds h stands;
}
