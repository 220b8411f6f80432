use Rattle.std.proofs.Common.{rules}
use Rattle.segment_core.proofs.TellingAll.{records_behind, takes_told, refuses_book, refuses_records}
use Rattle.segment_core.proofs.importing.import_facts.Goals as goal

pub returns-in-Err-clause-refused : goal.returns-in-Err-clause-refused
returns-in-Err-clause-refused c = search (rules, refuses_book)

pub returns-clause-takes : goal.returns-clause-takes
returns-clause-takes c = search (rules, takes_told, records_behind)

pub returns-clause-refused : goal.returns-clause-refused
returns-clause-refused c = search (rules, refuses_records, records_behind)
