use Rattle.std.proofs.Common.{◌+◌, refl}
use Rattle.std.proofs.lemmas.List.{take-append-drop, length-drop}
use Rattle.nm_kept.proofs.WindowLemmas.{slice_get-drop}
use Rattle.nm_kept.proofs.laws.a_list_is_its_past_and_its_window.Goals as goal

pub returns-clause-whole : goal.returns-clause-whole
returns-clause-whole g c = λ kept. take-append-drop kept.forgotten kept.items

pub returns-clause-size : goal.returns-clause-size
returns-clause-size g c = λ kept. length-drop kept.forgotten kept.items

pub returns-clause-item : goal.returns-clause-item
returns-clause-item g c = λ kept place. slice_get-drop kept.items kept.forgotten place (kept.forgotten + place) refl
