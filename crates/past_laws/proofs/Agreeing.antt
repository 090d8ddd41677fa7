-- Along a trace the value of the records and the folds say the same, and each record passes the rows of the value.
use Rattle.std.proofs.Common.{◌≡◌, Bool, true, List, [], ◌∷◌, ◌++◌, reverse, refl, ◌∙◌, ap}
use Rattle.std.specs.Prelude.{fold}
use Rattle.std.proofs.lemmas.List.{reverse-append}
use Rattle.locus_ids.specs.declared.config.Config.{Config}
use Rattle.trace_book.specs.declared.entry.Entry.{Entry}
use Rattle.trace_book.specs.declared.record.Record.{Record}
use Rattle.trace_book.specs.declared.record.Record.TheVariants as rec
use Rattle.tree_model.specs.Folds.{Trace}
use Rattle.promises.specs.of_lawful_trace.Lawful.{MayCome}
use Rattle.promises.specs.Past.{Past, nothing_yet}
use Rattle.promises.specs.After.{after}
use Rattle.promises.specs.Rows.{may_follow}
use Rattle.promises.specs.Traces.{each, past_of, is_one_tree}
use Rattle.past_laws.specs.Agreement.{Agrees, SitesAgree, TreesAgree, SaysGiven, speaks_of_sites, past}
use Rattle.past_laws.specs.Along.{ComesSo, EachComesSo, IsNamed}
use Rattle.past_laws.specs.Due.{last_of, SaysDue, TellsLast}
use Rattle.past_laws.proofs.Names.{both, both_parts}
use Rattle.past_laws.proofs.Calls.{calls_step, calls_none}
use Rattle.past_laws.proofs.Epochs.{epochs_step, epochs_begin}
use Rattle.past_laws.proofs.FilesFirst.{first_step, firsts_begin}
use Rattle.past_laws.proofs.FilesKind.{kind_step, set_step}
use Rattle.past_laws.proofs.Made.{made_step, made_begin}
use Rattle.past_laws.proofs.RowsAdopt.{row_adopt}
use Rattle.past_laws.proofs.RowsAnswers.{row_answer, tells_step, tells_none}
use Rattle.past_laws.proofs.RowsCalls.{row_look}
use Rattle.past_laws.proofs.RowsCommit.{row_commit}
use Rattle.past_laws.proofs.RowsMends.{row_call}
use Rattle.past_laws.proofs.RowsSites.{row_up, row_stopped, row_leave, row_join}
use Rattle.past_laws.proofs.RowsStart.{row_start}
use Rattle.past_laws.proofs.RowsTrees.{row_grant, row_refuse, row_act, row_release}
use Rattle.past_laws.proofs.Sites.{sites_step}
use Rattle.past_laws.proofs.SitesBegin.{sites_begin}
use Rattle.past_laws.proofs.TreesAscending.{ascending_step}
use Rattle.past_laws.proofs.Packed.{packed_step}
use Rattle.past_laws.proofs.PackedParts.{site_packs, epoch_packs, packed_begin}
use Rattle.past_laws.proofs.TreesCallers.{callers_step}
use Rattle.past_laws.proofs.TreesBegin.{trees_begin}
use Rattle.past_laws.proofs.TreesGranted.{granted_step}
use Rattle.past_laws.proofs.TreesKnown.{known_step}
use Rattle.past_laws.proofs.TreesMakes.{makes_step}
use Rattle.past_laws.proofs.TreesMaking.{making_step}
use Rattle.past_laws.proofs.TreesNamed.{one_named_step, was_granted_step, called_step}
use Rattle.past_laws.proofs.TreesOpenedSteps.{opened_step}
use Rattle.past_laws.proofs.TreesSites.{one_copy_step, one_left_step, held_step}
use Rattle.past_laws.proofs.TreesStarted.{started_step}

-- ---- the trees ----

trees_step : (c : Config) → IsNamed c → (r : Entry) (before : Trace) (p : Past) → ComesSo c before r → Agrees c before p → SitesAgree c (r ∷ before) (after c r.what p) → TreesAgree c (r ∷ before) (after c r.what p)
trees_step c named r before p may a sites = record {
  started = started_step c r.what before p may.row a;
  known = known_step c r.what before p may.row may.sites a;
  granted = granted_step c r.what before p may.row a;
  opened = opened_step c r.what before p may.row a;
  makes = makes_step c r.what before p may.row a;
  held = held_step c r.line r.what before p may.row a sites;
  kind = kind_step c r.line r.what before p may.row a;
  set = set_step c r.line r.what before p may.row a;
  one_named = one_named_step c r.what before p may.row a;
  was_granted = was_granted_step c r.what before p may.row a;
  called = called_step c r.what before p may.row a;
  making = making_step c r.what before p may.row a;
  callers = callers_step c r.what before p may.row may.sites a;
  one_copy = one_copy_step c r.what before p a;
  packed = λ site. site_packs c (after c r.what p) site (packed_step c r.what before p named.sites may.row may.sites a);
  packed_in = λ e site. epoch_packs c (after c r.what p) e site (packed_step c r.what before p named.sites may.row may.sites a);
  ascending = ascending_step c r.what before p a;
  one_left = one_left_step c r.line r.what before p may.row a sites;
}

-- ---- all of it ----

agrees_step : (c : Config) → IsNamed c → (r : Entry) (before : Trace) (p : Past) → ComesSo c before r → Agrees c before p → Agrees c (r ∷ before) (after c r.what p)
agrees_step c named r before p may a = record {
  sites = sites_step c r.line r.what before p may.row may.sites may.given a;
  epochs = epochs_step c r.line r.what before p may.row may.sites may.given a;
  trees = trees_step c named r before p may a (sites_step c r.line r.what before p may.row may.sites may.given a);
  calls = calls_step c r.line r.what before p may.row may.given a;
  made = made_step c r.what before p may.row may.given a;
  firsts = first_step c r.line r.what before p may.row a;
  packed = packed_step c r.what before p named.sites may.row may.sites a;
}

agrees_begin : (c : Config) → IsNamed c → Agrees c [] (nothing_yet c)
agrees_begin c named = record {
  sites = sites_begin c named.packs;
  epochs = epochs_begin c named.packs;
  trees = trees_begin c;
  calls = calls_none c;
  made = made_begin c;
  firsts = firsts_begin c;
  packed = packed_begin c;
}

pub all_agrees : (c : Config) → IsNamed c → (trace : Trace) → EachComesSo c trace → Agrees c trace (past c trace)
all_agrees c named [] k = agrees_begin c named
all_agrees c named (r ∷ before) k = agrees_step c named r before (past c before) k.0 (all_agrees c named before k.1)

-- ---- what the next record may hang on ----

pub last_same : (c : Config) (trace : Trace) → (past c trace).last ≡ last_of trace
last_same c [] = refl
last_same c (r ∷ before) = refl

pub tells_last : (c : Config) (trace : Trace) → EachComesSo c trace → TellsLast trace
tells_last c [] k = tells_none
tells_last c (r ∷ before) k = tells_step c r.line r.what before k.0.row k.0.due (tells_last c before k.1)

-- ---- in the order in which records are printed ----

fold_last : {X Y : Type 0} (f : Y → X → Y) (xs : List X) (y : Y) (x : X) → fold f y (xs ++ x ∷ []) ≡ f (fold f y xs) x
fold_last f [] y x = refl
fold_last f (z ∷ xs) y x = fold_last f xs (f y z) x

pub reverse_more : {X : Type 0} (x : X) (xs : List X) → reverse (x ∷ xs) ≡ reverse xs ++ x ∷ []
reverse_more x xs = reverse-append (x ∷ []) xs

-- what all records tell is the value of the trace
pub past_reversed : (c : Config) (trace : Trace) → past_of c (reverse trace) ≡ past c trace
past_reversed c [] = refl
past_reversed c (r ∷ before) = ap (past_of c) (reverse_more r before) ∙ (fold_last (λ (p : Past) (x : Entry). after c x.what p) (reverse before) (nothing_yet c) r ∙ ap (after c r.what) (past_reversed c before))

pub each_last : (passes : Past → Record → Bool) (c : Config) (xs : List Entry) (p : Past) (r : Entry) → each passes c p xs ≡ true → passes (fold (λ (q : Past) (x : Entry). after c x.what q) p xs) r.what ≡ true → each passes c p (xs ++ r ∷ []) ≡ true
each_last passes c [] p r h k = both (passes p r.what) true k refl
each_last passes c (x ∷ xs) p r h k = (let parts = both_parts (passes p x.what) (each passes c (after c x.what p) xs) h in
    both (passes p x.what) _ parts.0 (each_last passes c xs (after c x.what p) r parts.1 k))

-- ---- each record may follow ----

row : (c : Config) → IsNamed c → (r : Entry) (before : Trace) (p : Past) → Agrees c before p → p.last ≡ last_of before → TellsLast before → ComesSo c before r → may_follow c p r.what ≡ true
row c named r before p a last tells may = at r.what may.row may.sites may.given may.due
  where
    at : (w : Record) → MayCome c before w → speaks_of_sites c w ≡ true → SaysGiven c before w → SaysDue c before w → may_follow c p w ≡ true
    at (rec.Up site boot) h ours given due = row_up c before p site boot a ours h
    at (rec.Stopped site why) h ours given due = row_stopped c before p site why a ours h
    at (rec.Leave site e) h ours given due = row_leave c before p site e a h
    at (rec.Join site e members) h ours given due = row_join c before p site e members a ours h
    at (rec.Start e group copies) h ours given due = row_start c before p e group copies a h
    at (rec.Accept site process id words) h ours given due = row_call c before p site process id words a ours h
    at (rec.Look e id request f w result) h ours given due = row_look c before p e id request f w result a h
    at (rec.Grant e id request i m f stamp ss) h ours given due = row_grant c before p e id request i m f stamp ss named.sites h a
    at (rec.Refuse e id request i m f why) h ours given due = row_refuse c before p e id request i m f why named.sites h a
    at (rec.Act e i n o result) h ours given due = row_act c before p e i n o result h a
    at (rec.Commit f site stamp parents content) h ours given due = row_commit c before p f site stamp parents content a h
    at (rec.Release e i f stamp) h ours given due = row_release c before p e i f stamp h a
    at (rec.Adopt f site stamp) h ours given due = row_adopt c before p f site stamp a ours h
    at (rec.Answer site process id r) h ours given due = row_answer c before p site process id r a last tells given due h
    at _ h ours given due = refl

pub may_follow_all : (c : Config) → IsNamed c → (r : Entry) (before : Trace) → EachComesSo c (r ∷ before) → may_follow c (past c before) r.what ≡ true
may_follow_all c named r before k = row c named r before (past c before) (all_agrees c named before k.1) (last_same c before) (tells_last c before k.1) k.0

-- as records are printed, each may follow those before it
pub one_tree : (c : Config) → IsNamed c → (trace : Trace) → EachComesSo c trace → is_one_tree c (reverse trace) ≡ true
one_tree c named [] k = refl
one_tree c named (r ∷ before) k = ap (is_one_tree c) (reverse_more r before)
    ∙ each_last (may_follow c) c (reverse before) (nothing_yet c) r (one_tree c named before k.1) (ap (λ (p : Past). may_follow c p r.what) (past_reversed c before) ∙ may_follow_all c named r before k)
