-- A commit is by one instance of one call, so that what makes a file is told once.
use Rattle.std.proofs.Common.{◌≡◌, ℕ, ◌==◌, ◌&&◌, ◌||◌, ◌≤◌, Bool, true, false, cond, List, [], ◌∷◌, ◌++◌, length, filter, map, Option, Some, None, refl, sym, ap, subst, ◌∙◌, arith}
use Rattle.std.proofs.lemmas.Bool.Decides.{nat_tests}
use Rattle.std.specs.Prelude.{fold}
use Rattle.std.specs.List.{find, list_any, AllByRecursion}
use Rattle.std.specs.Str.{bytes_eq}
use Rattle.locus_ids.specs.declared.config.Config.{Config}
use Rattle.locus_ids.specs.declared.ids.EpochId.{EpochId}
use Rattle.locus_ids.specs.declared.ids.FileId.{FileId}
use Rattle.locus_ids.specs.declared.ids.Kind.TheVariants.{Dir}
use Rattle.locus_ids.specs.declared.ids.Stamp.{Stamp}
use Rattle.commit_graph.specs.Versions.{same_file, same_stamp}
use Rattle.commit_graph.specs.Counters.{next_number}
use Rattle.commit_graph.specs.Grants.{is_read}
use Rattle.trace_book.specs.Same.{same_call}
use Rattle.trace_book.specs.declared.record.Record.{Record}
use Rattle.trace_book.specs.declared.record.Record.TheVariants as rec
use Rattle.call_rules.specs.Walks.{root_of}
use Rattle.tree_model.specs.Epochs.{is_in}
use Rattle.tree_model.specs.Packs.{packs_of}
use Rattle.promises.specs.Past.{Past, Epoch, CallSoFar, Instance, Making, groups, nothing_yet, unformed, site_at, epoch_at, is_writer, is_named}
use Rattle.promises.specs.After.{after, told_by, is_epoch, is_home_of, is_id, is_ender, writers_of, with_making}
use Rattle.promises.specs.Same.{same_list}
use Rattle.promises.specs.Tree.{parents_of}
use Rattle.promises.specs.Rows.{may_follow, may_commit, is_the_one, is_writing}
use Rattle.plain_facts.proofs.Tests.{and_first}
use Rattle.past_laws.proofs.Names.{false_true, both_parts, epoch_eq, epoch_turned, call_turned, file_eq}
use Rattle.past_laws.proofs.Changing.{any_finds, Finds, filter_same, only_one}
use Rattle.past_laws.proofs.Finding.{filter_mapped, found_only}
use Rattle.past_laws.proofs.CallsLists.{each_found, one_passes}
use Rattle.past_laws.proofs.TreesLists.{length_map, fewer_pass}
use Rattle.past_laws.proofs.TreesBegin.{one_number}
use Rattle.row_lists.proofs.ByPlace.{once_more, kept_finds}
use Rattle.audit_laws.specs.Tidy.Epochs.{EpochStands, is_grant}
use Rattle.audit_laws.specs.Tidy.Ties.{is_called, GrantStands}
use Rattle.audit_laws.specs.Tidy.Steps.{OneCommit, made_by}
use Rattle.audit_laws.specs.Tidy.Tidy.{IsTidy}
use Rattle.audit_laws.proofs.Tidy.Answers.{AnswersOne, answers_one, closed_as}

-- the epoch of a site is the one of its name
pub home_is : (p : Past) (site : ℕ) (e : EpochId) → (site_at p site).epoch ≡ Some e → (t : Epoch) → is_home_of p site t ≡ is_epoch e t
home_is p site e at t = ap (λ o. is_in o t.id) at ∙ epoch_turned e t.id

-- a list of which one passes
record OnlyOne {X : Type 0} (ok : X → Bool) (xs : List X) : Type 0 where
  one : X
  is : xs ≡ one ∷ []
  passes : ok one ≡ true

only : {X : Type 0} (ok : X → Bool) (xs : List X) → is_the_one ok xs ≡ true → OnlyOne ok xs
only ok [] h = false_true h
only ok (x ∷ []) h = record { one = x; is = refl; passes = h }
only ok (x ∷ y ∷ xs) h = false_true h

-- the writers of the file at the site
writer_kept : (f : FileId) (site : ℕ) (xs : List Instance) (x : Instance) → filter (is_writing f) xs ≡ x ∷ [] → (x.grant.ss == site) ≡ true → filter (is_writer f site) xs ≡ x ∷ []
writer_kept f site xs x e at = narrower xs ∙ (ap (filter (λ (y : Instance). y.grant.ss == site)) e ∙ ap (λ b. cond b (x ∷ []) []) at)
  where
    narrower : (ys : List Instance) → filter (is_writer f site) ys ≡ filter (λ (y : Instance). y.grant.ss == site) (filter (is_writing f) ys)
    narrower [] = refl
    narrower (y ∷ ys) = by (same_file y.grant.file f) (y.grant.ss == site) (is_read y.grant.mode) refl refl refl (narrower ys)
      where
        by : (a b r : Bool) → same_file y.grant.file f ≡ a → (y.grant.ss == site) ≡ b → is_read y.grant.mode ≡ r → filter (is_writer f site) ys ≡ filter (λ (z : Instance). z.grant.ss == site) (filter (is_writing f) ys)
            → filter (is_writer f site) (y ∷ ys) ≡ filter (λ (z : Instance). z.grant.ss == site) (filter (is_writing f) (y ∷ ys))
        by true true false g h r later = rw (g, h, r) (rw h (ap (λ zs. y ∷ zs) later))
        by true true true g h r later = rw (g, h, r) later
        by true false false g h r later = rw (g, h, r) (rw h later)
        by true false true g h r later = rw (g, h, r) later
        by false b r g h q later = rw g later

record CalledOne (p : Past) (x : Instance) : Type 0 where
  call : CallSoFar
  called : filter (is_id x.grant.call) p.calls ≡ call ∷ []

-- the call of an open instance was accepted
called_one : (c : Config) (p : Past) (t : Epoch) (x : Instance) → IsTidy c p → AllByRecursion (GrantStands p.calls t.id) t.granted → find (is_grant x.grant.inst) t.granted ≡ Some x.grant → CalledOne p x
called_one c p t x tidy grants found = of (any_finds (is_called t.id x.grant) p.calls (each_found (GrantStands p.calls t.id) (is_grant x.grant.inst) t.granted x.grant found grants).0.called)
  where
    of : Finds (is_called t.id x.grant) p.calls → CalledOne p x
    of it = record { call = it.one; called = one_passes (is_id x.grant.call) (is_called t.id x.grant) p.calls it.one (tidy.calls.once x.grant.call) it.found (and_first (is_id x.grant.call it.one) _ it.passes) }

home_of : (o : Option EpochId) (e : EpochId) → is_in o e ≡ true → o ≡ Some e
home_of None e h = false_true h
home_of (Some d) e h = ap Some (epoch_eq d e h)

-- what a commit that may follow asks of its instance, besides that it is at the site and owes it
abbrev fits : Past → FileId → ℕ → Stamp → List Stamp → List ℕ → Epoch → Instance → Bool
fits p f site stamp parents content t x = bytes_eq content x.work.content && (same_list same_stamp parents (parents_of p t x) && same_stamp stamp (record { site = site; n = next_number p.history f parents site }))

abbrev is_owed : Past → FileId → ℕ → Stamp → List Stamp → List ℕ → Epoch → Instance → Bool
is_owed p f site stamp parents content t x = (x.grant.ss == site) && (x.work.owes && fits p f site stamp parents content t x)

in_home : (c : Config) (p : Past) (f : FileId) (site : ℕ) (t : Epoch) (x : Instance) → IsTidy c p → (site_at p site).epoch ≡ Some t.id → find (is_epoch t.id) p.epochs ≡ Some t → filter (is_writing f) t.opened ≡ x ∷ [] → (x.grant.ss == site) ≡ true → OneCommit p f site
in_home c p f site t x tidy at found is here = record {
  home = t.id;
  inside = at;
  epoch = t;
  homes = homes;
  there = kept_finds (is_home_of p site) p.epochs t homes;
  instance = x;
  writer = writer;
  writers = ap (fold (λ old (u : Epoch). filter (is_writer f site) u.opened ++ old) []) homes ∙ ap (λ ys. ys ++ []) writer;
  call = called.call;
  called = called.called;
  found = kept_finds (is_id x.grant.call) p.calls called.call called.called;
}
  where
    homes : filter (is_home_of p site) p.epochs ≡ t ∷ []
    homes = filter_same (is_home_of p site) (is_epoch t.id) (home_is p site t.id at) p.epochs ∙ only_one (is_epoch t.id) p.epochs t (tidy.epochs.once t.id) found

    writer : filter (is_writer f site) t.opened ≡ x ∷ []
    writer = writer_kept f site t.opened x is here

    called : CalledOne p x
    called = called_one c p t x tidy (each_found (λ (u : Epoch). AllByRecursion (GrantStands p.calls u.id) u.granted) (is_epoch t.id) p.epochs t found tidy.ties.grants).0
        (each_found (λ (y : Instance). find (is_grant y.grant.inst) t.granted ≡ Some y.grant) (is_writing f) t.opened x (kept_finds (is_writing f) t.opened x is) (each_found EpochStands (is_epoch t.id) p.epochs t found tidy.epochs.each).0.as_granted).0

pub commits_one : (c : Config) (p : Past) (f : FileId) (site : ℕ) (stamp : Stamp) (parents : List Stamp) (content : List ℕ) → IsTidy c p → may_follow c p (rec.Commit f site stamp parents content) ≡ true → OneCommit p f site
commits_one c p f site stamp parents content tidy may = of (any_finds (may_commit p f site stamp parents content) p.epochs may)
  where
    of : Finds (may_commit p f site stamp parents content) p.epochs → OneCommit p f site
    of it = made it.one it.found (both_parts (is_in (site_at p site).epoch it.one.id) (is_the_one (is_owed p f site stamp parents content it.one) (filter (is_writing f) it.one.opened)) it.passes)
      where
        made : (t : Epoch) → find (may_commit p f site stamp parents content) p.epochs ≡ Some t → (is_in (site_at p site).epoch t.id ≡ true) × (is_the_one (is_owed p f site stamp parents content t) (filter (is_writing f) t.opened) ≡ true) → OneCommit p f site
        made t found parts = (let x : OnlyOne (is_owed p f site stamp parents content t) (filter (is_writing f) t.opened) = only (is_owed p f site stamp parents content t) (filter (is_writing f) t.opened) parts.1 in
            let at : (site_at p site).epoch ≡ Some t.id = home_of (site_at p site).epoch t.id parts.0 in
            let asked : ((x.one.grant.ss == site) ≡ true) × ((x.one.work.owes && fits p f site stamp parents content t x.one) ≡ true) = both_parts (x.one.grant.ss == site) (x.one.work.owes && fits p f site stamp parents content t x.one) x.passes in
            in_home c p f site t x.one tidy at
            (found_only (is_epoch t.id) (may_commit p f site stamp parents content) (λ u h. sym (home_is p site t.id at u) ∙ and_first (is_in (site_at p site).epoch u.id) _ h) p.epochs t (tidy.epochs.once t.id) found)
            x.is asked.0)

-- the making that the first commit of a file tells
pub making_is : (c : Config) (p : Past) (f : FileId) (site : ℕ) → (it : OneCommit p f site) → with_making c f site p ≡ cond (list_any (λ (m : Making). same_file m.file f) p.files) p.files (made_by c f it.call ∷ p.files)
making_is c p f site it = ap (λ (ks : List CallSoFar). cond (list_any (λ (m : Making). same_file m.file f) p.files) p.files (map (made_by c f) ks ++ p.files)) one
  where
    turned : (b : Bool) → (b || false) ≡ b
    turned true = refl
    turned false = refl

    one : filter (λ (k : CallSoFar). list_any (λ (x : Instance). same_call x.grant.call k.id) (writers_of p f site)) p.calls ≡ it.call ∷ []
    one = ap (λ (xs : List Instance). filter (λ (k : CallSoFar). list_any (λ (x : Instance). same_call x.grant.call k.id) xs) p.calls) it.writers
        ∙ (filter_same (λ (k : CallSoFar). same_call it.instance.grant.call k.id || false) (is_id it.instance.grant.call) (λ k. turned (same_call it.instance.grant.call k.id) ∙ call_turned it.instance.grant.call k.id) p.calls ∙ it.called)

-- ---- a file is made once ----

abbrev is_of_file : FileId → Making → Bool
is_of_file f m = same_file m.file f

more_once : (c : Config) (p : Past) (f : FileId) (k : CallSoFar) (d : FileId) → length (filter (is_of_file d) p.files) ≤ 1 → length (filter (is_of_file d) (cond (list_any (is_of_file f) p.files) p.files (made_by c f k ∷ p.files))) ≤ 1
more_once c p f k d once = at (list_any (is_of_file f) p.files) refl (same_file f d) refl
  where
    at : (b : Bool) → list_any (is_of_file f) p.files ≡ b → (s : Bool) → same_file f d ≡ s → length (filter (is_of_file d) (cond b p.files (made_by c f k ∷ p.files))) ≤ 1
    at true h s e = once
    at false h true e = once_more (is_of_file d) (made_by c f k) p.files (subst (λ (x : FileId). list_any (is_of_file x) p.files ≡ false) (file_eq f d e) h)
    at false h false e = rw e once

pub files_next : (c : Config) (p : Past) (r : Record) → IsTidy c p → may_follow c p r ≡ true → (d : FileId) → length (filter (is_of_file d) (after c r p).files) ≤ 1
files_next c p (rec.Commit f site stamp parents content) tidy may d = of (commits_one c p f site stamp parents content tidy may)
  where
    of : OneCommit p f site → length (filter (is_of_file d) (with_making c f site p)) ≤ 1
    of it = subst (λ ms. length (filter (is_of_file d) ms) ≤ 1) (sym (making_is c p f site it)) (more_once c p f it.call d (tidy.files d))
files_next c p (rec.Up site boot) tidy may d = tidy.files d
files_next c p (rec.Stopped site cause) tidy may d = tidy.files d
files_next c p (rec.Leave site e) tidy may d = tidy.files d
files_next c p (rec.Join site e members) tidy may d = at (list_any (is_epoch e) p.epochs)
  where
    at : (b : Bool) → length (filter (is_of_file d) (cond b p (record p { epochs = record (unformed e) { members = members } ∷ p.epochs })).files) ≤ 1
    at true = tidy.files d
    at false = tidy.files d
files_next c p (rec.Start e group copies) tidy may d = tidy.files d
files_next c p (rec.Accept site process id words) tidy may d = tidy.files d
files_next c p (rec.Look e id request f w result) tidy may d = tidy.files d
files_next c p (rec.Grant e id request i m f stamp ss) tidy may d = tidy.files d
files_next c p (rec.Refuse e id request i m f why) tidy may d = tidy.files d
files_next c p (rec.Act e i n o result) tidy may d = tidy.files d
files_next c p (rec.Release e i f stamp) tidy may d = subst (λ (q : Past). length (filter (is_of_file d) q.files) ≤ 1) (sym (closed_as (is_ender (epoch_at p e) i) stamp p (filter (is_named i) (epoch_at p e).opened))) (tidy.files d)
files_next c p (rec.Adopt f site stamp) tidy may d = tidy.files d
files_next c p (rec.Answer site process id r) tidy may d = of (answers_one c p site process id r tidy.calls may)
  where
    of : AnswersOne c p site process id r → length (filter (is_of_file d) (told_by c (rec.Answer site process id r) p).files) ≤ 1
    of it = subst (λ (q : Past). length (filter (is_of_file d) q.files) ≤ 1) (sym it.told) (tidy.files d)
files_next c p (rec.Packet number from to kind) tidy may d = tidy.files d
files_next c p rec.Void tidy may d = tidy.files d
files_next c p rec.Budget tidy may d = tidy.files d

pub files_first : (c : Config) (d : FileId) → length (filter (is_of_file d) (nothing_yet c).files) ≤ 1
files_first c d = omega (arith, ap length (filter_mapped root (is_of_file d) groups), length_map root (filter of groups), fewer_pass of (λ g. g == d.group) weaker groups, one_number d.group 0 4)
  where
    root : ℕ → Making
    root group = record { file = root_of group; kind = Dir; set = packs_of c group }

    of : ℕ → Bool
    of group = same_file (root_of group) d

    weaker : (g : ℕ) → of g ≡ true → (g == d.group) ≡ true
    weaker g e = grind (arith, nat_tests)
