-- The laws of lists and of adding, from where they are proved.
-- Assumes nothing.
use Rattle.outcome_rules.specs.Laws.{ListLaws, AddingLaws, CallLaws}
use Rattle.outcome_rules.proofs.OneRecordMore.{latest_is_last, latest_in, death_in}
use Rattle.outcome_rules.proofs.BestChanged.{duration_exists}
use Rattle.outcome_rules.proofs.RefusalsOfAdding.{one_more, too_early_lem, own_passed}
use Rattle.outcome_rules.proofs.RecordsAccepted.{accepted_lawful, added_exactly, accepted_exact}

pub list_laws : ListLaws
list_laws = record { latest_is_last = latest_is_last; latest_in_course = latest_in; death_in_course = death_in; duration_exists = duration_exists }

pub adding_laws : AddingLaws
adding_laws = record { one_more = one_more; before_randomisation = too_early_lem; own_passed = own_passed }

pub call_laws : CallLaws
call_laws = record { accepted_lawful = accepted_lawful; added_exactly = added_exactly; accepted_exact = accepted_exact }
