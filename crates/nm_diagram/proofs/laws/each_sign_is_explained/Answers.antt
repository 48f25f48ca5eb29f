-- Each clause is a lemma.
use Rattle.nm_diagram.specs.Legend.{is_used}
use Rattle.nm_diagram.specs.Signs.{all_signs}
use Rattle.nm_diagram.proofs.LegendLemmas.{arrows-explained, links-explained, marks-explained, only-used}
use Rattle.nm_diagram.proofs.LegendLemmas.{returns-explained, rings-explained, waits-explained}
use Rattle.nm_diagram.proofs.laws.each_sign_is_explained.Goals as goal

pub returns-clause-marks : goal.returns-clause-marks
returns-clause-marks c = marks-explained

pub returns-clause-arrows : goal.returns-clause-arrows
returns-clause-arrows c = arrows-explained

pub returns-clause-links : goal.returns-clause-links
returns-clause-links c = links-explained

pub returns-clause-returns : goal.returns-clause-returns
returns-clause-returns c = returns-explained

pub returns-clause-rings : goal.returns-clause-rings
returns-clause-rings c = rings-explained

pub returns-clause-waits : goal.returns-clause-waits
returns-clause-waits c = waits-explained

pub returns-clause-used : goal.returns-clause-used
returns-clause-used c span ranks = only-used (is_used span ranks) all_signs
