-- With each record that may come the calls of the value and the calls of the folds stay the same.
use Rattle.std.proofs.Common.{ℕ, [], refl, arith}
use Rattle.locus_ids.specs.declared.config.Config.{Config}
use Rattle.trace_book.specs.declared.record.Record.{Record}
use Rattle.trace_book.specs.declared.record.Record.TheVariants as says
use Rattle.tree_model.specs.Folds.{Trace}
use Rattle.promises.specs.of_lawful_trace.Lawful.{MayCome}
use Rattle.promises.specs.Past.{Past, nothing_yet}
use Rattle.promises.specs.After.{after, told_by}
use Rattle.std.specs.List.{AllByRecursion}
use Rattle.past_laws.specs.Agreement.{Agrees, CallsAgree, SaysGiven}
use Rattle.past_laws.specs.Standing.{EpochStands}
use Rattle.past_laws.proofs.Names.{none_some}
use Rattle.past_laws.proofs.CallsGranted.{With}
use Rattle.past_laws.proofs.CallsDescribed.{users_step, users_none}
use Rattle.past_laws.proofs.CallsFields.{named_step, once_step, begun_step, unheard_step, granted_step, waits_step, stand_step}
use Rattle.past_laws.proofs.CallsUngranted.{ungranted_step}
use Rattle.past_laws.proofs.CallsOpened.{opened_stand}
use Rattle.past_laws.proofs.CallsAccepts.{accepts_stand}
use Rattle.past_laws.proofs.CallsAnswers.{answers_step}
use Rattle.past_laws.proofs.CallsFree.{free_step}

instances_step : (c : Config) (n : ℕ) (w : Record) (before : Trace) (p : Past) → MayCome c before w → SaysGiven c before w → Agrees c before p → AllByRecursion (EpochStands (With n w before) (told_by c w p).calls) (told_by c w p).epochs
instances_step c n (says.Accept s process new words) before p may given a = accepts_stand c n s process new words before p may a
instances_step c n w before p may given a = opened_stand c n w before p tt may given a

pub calls_step : (c : Config) (n : ℕ) (w : Record) (before : Trace) (p : Past) → MayCome c before w → SaysGiven c before w → Agrees c before p → CallsAgree c (With n w before) (after c w p)
calls_step c n w before p may given a = record {
  named = named_step c n w before p may a;
  once = once_step c n w before p may a;
  ungranted = ungranted_step c n w before p may a;
  begun = begun_step c n w before p may a;
  unheard = unheard_step c n w before may a.calls.unheard;
  granted = granted_step c n w before p may a;
  answers = answers_step c n w before p may a;
  waits = waits_step c n w before p may a;
  free = free_step c n w before p may given a;
  users = users_step c n w before may a.calls.users;
  stand = stand_step c n w before p may a;
  instances = instances_step c n w before p may given a;
}

-- before the first record
pub calls_none : (c : Config) → CallsAgree c [] (nothing_yet c)
calls_none c = record {
  named = λ id. refl;
  once = λ id. omega arith;
  ungranted = λ id e i h. refl;
  begun = λ id. refl;
  unheard = λ id h. (refl, refl);
  granted = λ k h. none_some k h;
  answers = λ k h. none_some k h;
  waits = refl;
  free = λ k h. none_some k h;
  users = users_none;
  stand = tt;
  instances = tt;
}
