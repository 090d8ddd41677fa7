-- names that are shown with their numbers, and names of messages, tell numbers
use Rattle.std.specs.Prelude.{refl}
use Rattle.std.specs.Fmt.{digits}
use Rattle.promise_samples.proofs.wrong.wrong_words_fail.Goals as goal

pub returns-clause-ambiguous_with_another_first : goal.returns-clause-ambiguous_with_another_first
unfolding digits
returns-clause-ambiguous_with_another_first c = refl

pub returns-clause-ambiguous_with_another_second : goal.returns-clause-ambiguous_with_another_second
unfolding digits
returns-clause-ambiguous_with_another_second c = refl

pub returns-clause-stat_of_another_kind : goal.returns-clause-stat_of_another_kind
unfolding digits
returns-clause-stat_of_another_kind c = refl

pub returns-clause-stat_of_another_file : goal.returns-clause-stat_of_another_file
unfolding digits
returns-clause-stat_of_another_file c = refl

pub returns-clause-stat_of_another_length : goal.returns-clause-stat_of_another_length
unfolding digits
returns-clause-stat_of_another_length c = refl

pub returns-clause-stat_of_another_version : goal.returns-clause-stat_of_another_version
unfolding digits
returns-clause-stat_of_another_version c = refl

pub returns-clause-entry_with_another_number : goal.returns-clause-entry_with_another_number
unfolding digits
returns-clause-entry_with_another_number c = refl

pub returns-clause-entry_of_another_kind : goal.returns-clause-entry_of_another_kind
unfolding digits
returns-clause-entry_of_another_kind c = refl
