use Rattle.slots.proofs.Marks.{marks-hold}
use Rattle.slots.proofs.Theorems.{finds-last, finds-stored, never-damaged}
use Rattle.slots.proofs.headline.laws.Goals as goal

pub returns-clause-finds_last : goal.returns-clause-finds_last
returns-clause-finds_last c = finds-last

pub returns-clause-finds_stored : goal.returns-clause-finds_stored
returns-clause-finds_stored c = finds-stored

pub returns-clause-never_damaged : goal.returns-clause-never_damaged
returns-clause-never_damaged c = never-damaged

pub returns-clause-marks_hold : goal.returns-clause-marks_hold
returns-clause-marks_hold c = marks-hold
