-- In every run a boot, a stop, a leave and a join come as they may after the records before them.
use Rattle.std.proofs.Common.{◌≡◌, ℕ, ◌==◌, ◌⊎◌, Bool, true, false, cond, ◌||◌, ◌&&◌, List, [], ◌∷◌, ◌++◌, length, Option, Some, None, refl, ◌∙◌, ap, inl, inr, arith}
use Rattle.std.proofs.lemmas.Bool.Decides.{nat_tests}
use Rattle.role_steps.proofs.of_plain_facts.Numbers.{apart, equal}
use Rattle.role_steps.proofs.of_plain_facts.Options.{none_some, some_same}
use Rattle.role_steps.proofs.of_plain_facts.Tests.{both_true, false_true, or_either}
use Rattle.locus_ids.specs.declared.ids.EpochId.{EpochId}
use Rattle.locus_ids.specs.declared.sites.Members.{Members}
use Rattle.locus_ids.specs.declared.config.Config.{Config}
use Rattle.schedule_lines.specs.declared.line.ScheduleLine.{ScheduleLine}
use Rattle.trace_book.specs.Same.{same_epoch}
use Rattle.trace_book.specs.declared.record.Record.{Record}
use Rattle.trace_book.specs.declared.record.Record.TheVariants as says
use Rattle.role_steps.specs.Views.{Told, Shown, Promises}
use Rattle.lawful_trace.specs.of_tree_model.Epochs.{has_joined, last_joined, is_above_joined, members_of}
use Rattle.site_laws.specs.of_the_run.Joins.{Joined, OneList}
use Rattle.site_laws.specs.of_the_run.Worlds.{Line}
use Rattle.site_laws.specs.of_the_run.Runs.{run_in}
use Rattle.site_laws.proofs.of_the_run.OneList.{one_list}
use Rattle.site_laws.specs.of_run_laws.Standing.{GoesOn, EpochsGoOn, IsUp, StaysUp, joins_line, JoinsRise}
use Rattle.site_laws.proofs.of_run_laws.Rises.{run_joins_rise}
use Rattle.site_laws.specs.Vectors.Written.{past_of}
use Rattle.site_laws.specs.Locks.Joins.{WasJoined, FirstJoin, JoinsAreOnce}
use Rattle.site_laws.proofs.Locks.JoinsRun.{run_joins_once}
use Rattle.row_laws.specs.Shown.{with_told, shown, trace_of, EachRecord}
use Rattle.row_laws.specs.Rows.{SiteRecordRow, IsSiteRow}
use Rattle.row_laws.specs.Course.{UpRecord, ToldRow, EachTold}
use Rattle.row_laws.proofs.Causes.{epoch_standing}
use Rattle.row_laws.proofs.AskedRun.{Courses, run_courses}

-- ---- tests ----

epoch_same : (a b : EpochId) → same_epoch a b ≡ true → a ≡ b
epoch_same a b h = id_eq (grind (arith, nat_tests)) (grind (arith, nat_tests)) (grind (arith, nat_tests))
  where
    id_eq : a.number ≡ b.number → a.site ≡ b.site → a.boot ≡ b.boot → a ≡ b
    id_eq e f g = λ i. record { number = e i; site = f i; boot = g i }

-- ---- a join is new ----

abbrev Before : ℕ → EpochId → List Line → Type 0
Before s id older = (m : Members) × WasJoined (past_of older) s id m

record_joined : (s n : ℕ) (id : EpochId) (r : Record) (older : List Line) → (has_joined (shown older) s id ≡ true → Before s id older) → has_joined (record { line = n; what = r } ∷ shown older) s id ≡ true → Before s id (record { number = n; told = Shown r } ∷ older)
record_joined s n id (says.Join t i m) older h e = by_test (or_either ((t == s) && same_epoch i id) (has_joined (shown older) s id) e)
  where
    by_test : (((t == s) && same_epoch i id) ≡ true) ⊎ (has_joined (shown older) s id ≡ true) → Before s id (record { number = n; told = Shown (says.Join t i m) } ∷ older)
    by_test (inl f) = let k : ((t == s) ≡ true) × (same_epoch i id ≡ true) = both_true (t == s) (same_epoch i id) f in (m, inl (equal t s k.0, epoch_same i id k.1, refl))
    by_test (inr f) = let k : Before s id older = h f in (k.0, inr k.1)
record_joined s n id _ older h e = let k : Before s id older = h e in (k.0, inr k.1)

told_joined : (s n : ℕ) (id : EpochId) (x : Told) (older : List Line) → (has_joined (shown older) s id ≡ true → Before s id older) → has_joined (with_told n x (shown older)) s id ≡ true → Before s id (record { number = n; told = x } ∷ older)
told_joined s n id (Shown r) older h e = record_joined s n id r older h e
told_joined s n id _ older h e = let k : Before s id older = h e in (k.0, inr k.1)

joined_before : (s : ℕ) (id : EpochId) (trace : List Line) → has_joined (shown trace) s id ≡ true → Before s id trace
joined_before s id [] e = absurd (false_true e)
joined_before s id (x ∷ older) e = told_joined s x.number id x.told older (joined_before s id older) e

is_new : (s : ℕ) (id : EpochId) (older : List Line) → ((m : Members) → WasJoined (past_of older) s id m → ⊥) → has_joined (shown older) s id ≡ false
is_new s id older first =
    (elim (has_joined (shown older) s id) as (λ b. has_joined (shown older) s id ≡ b → b ≡ false) [
      | true ↦ λ e. (let k : Before s id older = joined_before s id older e in absurd (first k.0 k.1))
      | false ↦ λ e. refl
    ]) refl

-- ---- its list is that of the others ----

abbrev pub Listed : EpochId → List Line → Option Members → Type 0
Listed id older o = (m : Members) → o ≡ Some m → (t : ℕ) × Joined t id m older

record_listed : (n : ℕ) (id : EpochId) (r : Record) (older : List Line) → Listed id older (members_of (shown older) id) → Listed id (record { number = n; told = Shown r } ∷ older) (members_of (record { line = n; what = r } ∷ shown older) id)
record_listed n id (says.Join t i m) older h =
    (elim (same_epoch i id) as (λ b. same_epoch i id ≡ b → Listed id (record { number = n; told = Shown (says.Join t i m) } ∷ older) (cond b (Some m) (members_of (shown older) id))) [
      | true ↦ λ e k f. (t, inl (refl, epoch_same i id e, some_same m k f))
      | false ↦ λ e k f. (let g : (t : ℕ) × Joined t id k older = h k f in (g.0, inr g.1))
    ]) refl
record_listed n id _ older h = λ k f. (let g : (t : ℕ) × Joined t id k older = h k f in (g.0, inr g.1))

told_listed : (n : ℕ) (id : EpochId) (x : Told) (older : List Line) → Listed id older (members_of (shown older) id) → Listed id (record { number = n; told = x } ∷ older) (members_of (with_told n x (shown older)) id)
told_listed n id (Shown r) older h = record_listed n id r older h
told_listed n id _ older h = λ k f. (let g : (t : ℕ) × Joined t id k older = h k f in (g.0, inr g.1))

pub listed_before : (id : EpochId) (trace : List Line) → Listed id trace (members_of (shown trace) id)
listed_before id [] = λ m e. absurd (none_some m e)
listed_before id (x ∷ older) = told_listed x.number id x.told older (listed_before id older)

same_list : (id : EpochId) (members : Members) (o : Option Members) → ((m : Members) → o ≡ Some m → m ≡ members) → o ≡ None ⊎ o ≡ Some members
same_list id members None h = inl refl
same_list id members (Some m) h = inr (ap Some (h m refl))

-- ---- it is above the last one ----

-- the trace has the site's last join, and it hasn't booted since
record Last (s : ℕ) (id : EpochId) (trace : List Line) : Type 0 where
  number : ℕ
  members : Members
  between : List Line
  older : List Line
  split : trace ≡ between ++ joins_line number s id members ∷ older
  stays : StaysUp s between

abbrev LastOf : ℕ → List Line → Option EpochId → Type 0
LastOf s trace o = (id : EpochId) → o ≡ Some id → Last s id trace

longer : (s : ℕ) (id : EpochId) (x : Line) (older : List Line) → (IsUp s x.told → ⊥) → Last s id older → Last s id (x ∷ older)
longer s id x older up h = record { number = h.number; members = h.members; between = x ∷ h.between; older = h.older; split = ap (λ (ls : List Line). x ∷ ls) h.split; stays = (up, h.stays) }

record_last : (s n : ℕ) (r : Record) (older : List Line) → LastOf s older (last_joined (shown older) s) → LastOf s (record { number = n; told = Shown r } ∷ older) (last_joined (record { line = n; what = r } ∷ shown older) s)
record_last s n (says.Join t i m) older h =
    (elim (t == s) as (λ b. (t == s) ≡ b → LastOf s (record { number = n; told = Shown (says.Join t i m) } ∷ older) (cond b (Some i) (last_joined (shown older) s))) [
      | true ↦ λ e id f. record { number = n; members = m; between = []; older = older; split = (λ j. record { number = n; told = Shown (says.Join (equal t s e j) (some_same i id f j) m) } ∷ older); stays = tt }
      | false ↦ λ e id f. longer s id (record { number = n; told = Shown (says.Join t i m) }) older (λ u. u) (h id f)
    ]) refl
record_last s n (says.Up t boot) older h =
    (elim (t == s) as (λ b. (t == s) ≡ b → LastOf s (record { number = n; told = Shown (says.Up t boot) } ∷ older) (cond b None (last_joined (shown older) s))) [
      | true ↦ λ e id f. absurd (none_some id f)
      | false ↦ λ e id f. longer s id (record { number = n; told = Shown (says.Up t boot) }) older (apart t s e) (h id f)
    ]) refl
record_last s n r older h = λ id f. longer s id (record { number = n; told = Shown r }) older (λ u. u) (h id f)

told_last : (s n : ℕ) (x : Told) (older : List Line) → LastOf s older (last_joined (shown older) s) → LastOf s (record { number = n; told = x } ∷ older) (last_joined (with_told n x (shown older)) s)
told_last s n (Shown r) older h = record_last s n r older h
told_last s n (Promises t i reach) older h = λ id f. longer s id (record { number = n; told = Promises t i reach }) older (λ u. u) (h id f)
told_last s n x older h = λ id f. longer s id (record { number = n; told = x }) older (λ u. u) (h id f)

last_before : (s : ℕ) (trace : List Line) → LastOf s trace (last_joined (shown trace) s)
last_before s [] = λ id e. absurd (none_some id e)
last_before s (x ∷ older) = told_last s x.number x.told older (last_before s older)

above_last : (s n : ℕ) (id : EpochId) (members : Members) (older : List Line) (o : Option EpochId) → JoinsRise (joins_line n s id members ∷ older) → LastOf s older o → is_above_joined o id ≡ true
above_last s n id members older None rise h = refl
above_last s n id members older (Some last) rise h =
    let k : Last s last older = h last refl in
    rise s k.number n id last members k.members [] k.between k.older (ap (λ (ls : List Line). joins_line n s id members ∷ ls) k.split) k.stays

-- ---- the rows ----

rises_before : (x : Line) (older : List Line) → JoinsRise (x ∷ older) → JoinsRise older
rises_before x older rise s j k later id members others newer between rest e stays = rise s j k later id members others (x ∷ newer) between rest (ap (λ (ls : List Line). x ∷ ls) e) stays

record_site : (c : Config) (lines : List ScheduleLine) (n : ℕ) (r : Record) (older : List Line) → UpRecord c (shown older) r → GoesOn (Shown r) older → FirstJoin (past_of older) (Shown r) → OneList (record { number = n; told = Shown r } ∷ older) → JoinsRise (record { number = n; told = Shown r } ∷ older) → SiteRecordRow c (shown older) r
record_site c lines n (says.Up s boot) older up go first one rise = up
record_site c lines n (says.Stopped s why) older up go first one rise = up
record_site c lines n (says.Leave s id) older up go first one rise = record { inside = epoch_standing c s older up ∙ go }
record_site c lines n (says.Join s id members) older up go first one rise = record {
  up = up;
  outside = epoch_standing c s older up ∙ go.2;
  new = is_new s id older first;
  later = above_last s n id members older (last_joined (shown older) s) rise (last_before s older);
  same = same_list id members (members_of (shown older) id) (λ m e. (let g : (t : ℕ) × Joined t id m older = listed_before id older m e in one g.0 s id m members (inr g.1) (inl (refl, refl, refl))));
}
record_site c lines n _ older up go first one rise = tt

told_site : (c : Config) (lines : List ScheduleLine) (n : ℕ) (x : Told) (older : List Line) → ToldRow c lines n (shown older) x → GoesOn x older → FirstJoin (past_of older) x → OneList (record { number = n; told = x } ∷ older) → JoinsRise (record { number = n; told = x } ∷ older) → EachRecord (IsSiteRow c) (shown older) → EachRecord (IsSiteRow c) (with_told n x (shown older))
told_site c lines n (Shown r) older row go first one rise rest = (record_site c lines n r older row.1 go first one rise, rest)
told_site c lines n _ older row go first one rise rest = rest

each_site : (c : Config) (lines : List ScheduleLine) (trace : List Line) → EachTold c lines trace → EpochsGoOn trace → JoinsAreOnce (past_of trace) → OneList trace → JoinsRise trace → EachRecord (IsSiteRow c) (shown trace)
each_site c lines [] rows go first one rise = tt
each_site c lines (x ∷ older) rows go first one rise =
    told_site c lines x.number x.told older rows.0 go.0 first.0 one rise (each_site c lines older rows.1 go.1 first.1 (λ s t id m n h g. one s t id m n (inr h) (inr g)) (rises_before x older rise))

pub run_sites : (c : Config) (lines : List ScheduleLine) → EachRecord (IsSiteRow c) (trace_of (run_in c lines))
run_sites c lines =
    let p : Courses c lines (length lines) (run_in c lines) = run_courses c lines in
    each_site c lines (run_in c lines).trace p.course.rows p.good.law (run_joins_once c lines) (one_list c lines) (run_joins_rise c lines)
