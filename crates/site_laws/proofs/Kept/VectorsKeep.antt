-- Written vectors keep what ancestors keep.
use Rattle.std.proofs.Common.{◌≡◌, ℕ, zero, suc, ◌≤◌, ◌<◌, Bool, true, false, not, cond, ◌&&◌, ◌||◌, List, [], ◌∷◌, map, filter, refl, sym, ◌∙◌, ap, subst, arith, inl, inr}
use Rattle.std.specs.List.{list_any}
use Rattle.role_steps.proofs.of_plain_facts.Tests.{false_unless, same_truth}
use Rattle.locus_ids.specs.declared.config.Config.{Config}
use Rattle.schedule_lines.specs.declared.line.ScheduleLine.{ScheduleLine}
use Rattle.locus_ids.specs.declared.ids.FileId.{FileId}
use Rattle.locus_ids.specs.declared.ids.Stamp.{Stamp}
use Rattle.locus_ids.specs.Sizes.{sites_max}
use Rattle.version_vector.specs.Counters.{part, AllLe, all_le}
use Rattle.version_vector.proofs.Counting.{AllLe-from_test, all_le-from_AllLe}
use Rattle.commit_graph.specs.declared.history.Version.{Version}
use Rattle.commit_graph.specs.Versions.{same_stamp, is_in, is_ancestor, is_proper_ancestor, is_covered, kept}
use Rattle.commit_graph.specs.Counters.{counter}
use Rattle.commit_graph.specs.Vectors.{numbers_from, vector_of}
use Rattle.commit_graph.proofs.Names.{same_stamp_refl, same_stamp_eq, stamp_eq}
use Rattle.conflict_flags.specs.Written.{is_format, NoneTwice}
use Rattle.conflict_flags.proofs.Ancestors.{Each, Counted, Named, named, own_count, place, false_not_true}
use Rattle.conflict_flags.proofs.Vectors.{IsOwn, vector-written}
use Rattle.role_steps.specs.Own.{Every}
use Rattle.role_steps.specs.Versions.{is_below}
use Rattle.tree_model.specs.Histories.{format_stamp, history}
use Rattle.the_run.specs.Worlds.{World, Line}
use Rattle.the_run.proofs.Boots.{every_weaker}
use Rattle.the_run.specs.Runs.{run_in}
use Rattle.site_laws.specs.Vectors.Written.{past_of, CommitsAreNumbered}
use Rattle.site_laws.proofs.Vectors.FactsRun.{run_numbered}
use Rattle.site_laws.specs.Vectors.HistoryCommits.{commits_of, SitesAreKnown, IsFormatStamp, VectorsTell}
use Rattle.site_laws.proofs.Vectors.HistoryHistory.{Sound, sound, all_own, vectors_tell}
use Rattle.site_laws.proofs.Vectors.HistorySited.{run_sited}
use Rattle.site_laws.proofs.Packs.InstanceAgree.{run_agrees}
use Rattle.site_laws.proofs.Kept.StampLawsRun.{run_stamps}
use Rattle.site_laws.specs.Kept.Printed.{printed, known_in}
use Rattle.site_laws.specs.Kept.Keeping.{AreOrdered}
use Rattle.site_laws.specs.Kept.Known.{IsVersion}
use Rattle.site_laws.specs.Kept.Vectors.{has_below, kept_by_vectors, VectorsKeepTheSame}
use Rattle.site_laws.proofs.Kept.KeptRun.{run_ordered}
use Rattle.site_laws.proofs.Kept.Grown.{format_test}
use Rattle.site_laws.proofs.Kept.Alike.{Alike, alike, same_vector, not_in_counter, not_in_ancestor, format_not_in}
use Rattle.site_laws.proofs.Kept.Standing.{StandsIn, written_stands, ancestor_self, under_all}
use Rattle.site_laws.proofs.Kept.Candidates.{candidates_stand}
use Rattle.site_laws.proofs.Kept.NamesRun.{run_named}
use Rattle.site_laws.proofs.Kept.RootsRun.{run_roots}

-- ---- tests ----

-- a proper ancestor by the two orders
proper_same : (s x y : Bool) → (x ≡ true → y ≡ true → s ≡ true) → (s ≡ true → y ≡ true) → (not s && x) ≡ (x && not y)
proper_same true true true f g = refl
proper_same true true false f g = g refl
proper_same true false y f g = refl
proper_same false true true f g = sym (f refl refl)
proper_same false true false f g = refl
proper_same false false y f g = refl

never_both : (b : Bool) → (b && not b) ≡ false
never_both true = refl
never_both false = refl

zero_part : (f : ℕ → ℕ) → ((n : ℕ) → f n ≡ 0) → (ns : List ℕ) (t : ℕ) → part (map f ns) t ≡ 0
zero_part f none [] t = refl
zero_part f none (n ∷ ns) zero = none n
zero_part f none (n ∷ ns) (suc t) = zero_part f none ns t

-- ---- the laws on which this rests ----

pub record Grounds (c : Config) (file : FileId) (trace : List Line) : Type 0 where
  pub counted : Counted file (commits_of file (past_of trace))
  pub own : Each IsOwn (commits_of file (past_of trace))
  pub tells : VectorsTell file (commits_of file (past_of trace))
  pub same : Alike c file trace
  pub order : AreOrdered (history c (printed trace)) file
  pub under : file.ino ≡ 1 → (b : Stamp) → is_in (commits_of file (past_of trace)) file b ≡ true → is_ancestor (history c (printed trace)) file format_stamp b ≡ true

abbrev pub H : Config → List Line → List Version
H c trace = history c (printed trace)

abbrev pub C : FileId → List Line → List Version
C file trace = commits_of file (past_of trace)

-- ---- vectors ----

below_same : (c : Config) (file : FileId) (trace : List Line) → Grounds c file trace → (a b : Stamp) → has_below (H c trace) file a b ≡ has_below (C file trace) file a b
below_same c file trace k a b =
    ap (λ (v : List ℕ). is_below v (vector_of (H c trace) file b)) (same_vector c file trace k.same a) ∙ ap (λ (v : List ℕ). is_below (vector_of (C file trace) file a) v) (same_vector c file trace k.same b)

-- a version's own counter is its number
own_part : (c : Config) (file : FileId) (trace : List Line) → Grounds c file trace → (b : Stamp) → is_in (C file trace) file b ≡ true → part (vector_of (C file trace) file b) (place b) ≡ b.n
own_part c file trace k b h = sym (vector-written file (C file trace) k.counted k.own b (place b)) ∙ sym (own_count file (C file trace) k.counted b h)

-- the format's version counts nothing
format_part : (c : Config) (file : FileId) (trace : List Line) → Grounds c file trace → (a : Stamp) → is_format a ≡ true → (t : ℕ) → part (vector_of (C file trace) file a) t ≡ 0
format_part c file trace k a f t = zero_part (counter (C file trace) file a) (λ n. not_in_counter file (C file trace) a n (format_not_in file (C file trace) k.counted a f)) (numbers_from 1 sites_max) t

-- a version isn't at most the format's
not_under : (c : Config) (file : FileId) (trace : List Line) → Grounds c file trace → (a b : Stamp) → is_format a ≡ true → is_in (C file trace) file b ≡ true → all_le (vector_of (C file trace) file b) (vector_of (C file trace) file a) ≡ false
not_under c file trace k a b f h = false_unless (all_le (vector_of (C file trace) file b) (vector_of (C file trace) file a)) (λ e.
    (let le : AllLe (vector_of (C file trace) file b) (vector_of (C file trace) file a) = AllLe-from_test (vector_of (C file trace) file b) (vector_of (C file trace) file a) e in
    let low : part (vector_of (C file trace) file b) (place b) ≤ part (vector_of (C file trace) file a) (place b) = le.each (place b) in
    let none : part (vector_of (C file trace) file a) (place b) ≡ 0 = format_part c file trace k a f (place b) in
    let mine : part (vector_of (C file trace) file b) (place b) ≡ b.n = own_part c file trace k b h in
    let n : Named b = named file (C file trace) k.counted b h in
    let pos : 0 < b.n = n.pos in
    absurd (omega (arith, low, none, mine, pos))))

format_under : (c : Config) (file : FileId) (trace : List Line) → Grounds c file trace → (a b : Stamp) → is_format a ≡ true → all_le (vector_of (C file trace) file a) (vector_of (C file trace) file b) ≡ true
format_under c file trace k a b f = all_le-from_AllLe (vector_of (C file trace) file a) (vector_of (C file trace) file b) (record { each = λ t. (let none : part (vector_of (C file trace) file a) t ≡ 0 = format_part c file trace k a f t in omega (arith, none)) })

-- ---- two versions ----

-- the two orders agree on them
abbrev pub Agree : Config → FileId → List Line → Stamp → Stamp → Type 0
Agree c file trace a b = is_proper_ancestor (H c trace) file a b ≡ has_below (H c trace) file a b

not_format_in : (c : Config) (file : FileId) (trace : List Line) → Grounds c file trace → (b : Stamp) → is_in (C file trace) file b ≡ true → is_format b ≡ false
not_format_in c file trace k b h = false_unless (is_format b) (λ f. false_not_true (format_not_in file (C file trace) k.counted b f) h)

ancestor_le : (c : Config) (file : FileId) (trace : List Line) → Grounds c file trace → (a b : Stamp) → is_in (C file trace) file a ≡ true → is_in (C file trace) file b ≡ true → is_ancestor (H c trace) file a b ≡ all_le (vector_of (C file trace) file a) (vector_of (C file trace) file b)
ancestor_le c file trace k a b ha hb =
    let u : List ℕ = vector_of (C file trace) file a in
    let v : List ℕ = vector_of (C file trace) file b in
    let r : _ × _ = k.tells.tell a b ha hb in
    k.same.ancestors a b (not_format_in c file trace k a ha) ∙ same_truth (is_ancestor (C file trace) file a b) (all_le u v) (λ e. all_le-from_AllLe u v (r.0 e)) (λ e. r.1 (AllLe-from_test u v e))

commits_agree : (c : Config) (file : FileId) (trace : List Line) → Grounds c file trace → (a b : Stamp) → is_in (C file trace) file a ≡ true → is_in (C file trace) file b ≡ true → Agree c file trace a b
commits_agree c file trace k a b ha hb =
    let u : List ℕ = vector_of (C file trace) file a in
    let v : List ℕ = vector_of (C file trace) file b in
    let x : is_ancestor (H c trace) file a b ≡ all_le u v = ancestor_le c file trace k a b ha hb in
    let y : is_ancestor (H c trace) file b a ≡ all_le v u = ancestor_le c file trace k b a hb ha in
    ap (λ (t : Bool). not (same_stamp a b) && t) x
    ∙ (proper_same (same_stamp a b) (all_le u v) (all_le v u)
    (λ p q. subst (λ (s : Stamp). same_stamp a s ≡ true) (k.order.apart a b (x ∙ p) (y ∙ q)) (same_stamp_refl a))
    (λ s. sym y ∙ subst (λ (t : Stamp). is_ancestor (H c trace) file b t ≡ true) (sym (same_stamp_eq a b s)) (ancestor_self file (H c trace) b))
    ∙ sym (below_same c file trace k a b))

unlike : (a b : Stamp) → is_format a ≡ true → is_format b ≡ false → same_stamp a b ≡ false
unlike a b f g = false_unless (same_stamp a b) (λ e. false_not_true g (subst (λ (x : Stamp). is_format x ≡ true) (same_stamp_eq a b e) f))

unlike_too : (a b : Stamp) → is_format a ≡ false → is_format b ≡ true → same_stamp a b ≡ false
unlike_too a b f g = false_unless (same_stamp a b) (λ e. false_not_true f (subst (λ (x : Stamp). is_format x ≡ true) (sym (same_stamp_eq a b e)) g))

format_is : (a : Stamp) → IsFormatStamp a → a ≡ format_stamp
format_is a h = stamp_eq a format_stamp h.site h.number

-- the format's version is below each commit
first_agree : (c : Config) (file : FileId) (trace : List Line) → Grounds c file trace → (a b : Stamp) → IsFormatStamp a → file.ino ≡ 1 → is_in (C file trace) file b ≡ true → Agree c file trace a b
first_agree c file trace k a b fa root hb =
    let f : is_format a ≡ true = format_test a fa in
    let u : List ℕ = vector_of (C file trace) file a in
    let v : List ℕ = vector_of (C file trace) file b in
    let ancestor : is_ancestor (H c trace) file a b ≡ true = subst (λ (x : Stamp). is_ancestor (H c trace) file x b ≡ true) (sym (format_is a fa)) (k.under root b hb) in
    ap (λ (t : Bool). not t && is_ancestor (H c trace) file a b) (unlike a b f (not_format_in c file trace k b hb)) ∙ (ancestor
    ∙ sym (below_same c file trace k a b ∙ (ap (λ (t : Bool). t && not (all_le v u)) (format_under c file trace k a b f) ∙ ap not (not_under c file trace k a b f hb))))

-- and no commit is below it
last_agree : (c : Config) (file : FileId) (trace : List Line) → Grounds c file trace → (a b : Stamp) → is_in (C file trace) file a ≡ true → IsFormatStamp b → Agree c file trace a b
last_agree c file trace k a b ha fb =
    let f : is_format b ≡ true = format_test b fb in
    let g : is_format a ≡ false = not_format_in c file trace k a ha in
    let u : List ℕ = vector_of (C file trace) file a in
    let v : List ℕ = vector_of (C file trace) file b in
    let apart : same_stamp a b ≡ false = unlike_too a b g f in
    let none : is_ancestor (H c trace) file a b ≡ false = k.same.ancestors a b g ∙ (not_in_ancestor file (C file trace) a b (format_not_in file (C file trace) k.counted b f) ∙ apart) in
    ap (λ (t : Bool). not t && is_ancestor (H c trace) file a b) apart ∙ (none
    ∙ sym (below_same c file trace k a b ∙ ap (λ (t : Bool). t && not (all_le v u)) (not_under c file trace k b a f ha)))

-- the format's version isn't below itself
alone_agree : (c : Config) (file : FileId) (trace : List Line) (a b : Stamp) → IsFormatStamp a → IsFormatStamp b → Agree c file trace a b
alone_agree c file trace a b fa fb =
    let same : b ≡ a = format_is b fb ∙ sym (format_is a fa) in
    subst (Agree c file trace a) (sym same) (ap (λ (t : Bool). not t && is_ancestor (H c trace) file a a) (same_stamp_refl a) ∙ sym (never_both (all_le (vector_of (H c trace) file a) (vector_of (H c trace) file a))))

pub agree : (c : Config) (file : FileId) (trace : List Line) → Grounds c file trace → (a b : Stamp) → StandsIn file (C file trace) a → StandsIn file (C file trace) b → Agree c file trace a b
agree c file trace k a b (inl fa) (inl fb) = alone_agree c file trace a b fa.0 fb.0
agree c file trace k a b (inl fa) (inr hb) = first_agree c file trace k a b fa.0 fa.1 hb
agree c file trace k a b (inr ha) (inl fb) = last_agree c file trace k a b ha fb.0
agree c file trace k a b (inr ha) (inr hb) = commits_agree c file trace k a b ha hb

-- ---- lists ----

any_same : (f g : Stamp → Bool) (P : Stamp → Type 0) → ((b : Stamp) → P b → f b ≡ g b) → (bs : List Stamp) → Every P bs → list_any f bs ≡ list_any g bs
any_same f g P same [] h = refl
any_same f g P same (b ∷ bs) h = ap (λ (x : Bool). x || list_any f bs) (same b h.0) ∙ ap (λ (x : Bool). g b || x) (any_same f g P same bs h.1)

filter_same : (f g : Stamp → Bool) (P : Stamp → Type 0) → ((b : Stamp) → P b → f b ≡ g b) → (bs : List Stamp) → Every P bs → filter f bs ≡ filter g bs
filter_same f g P same [] h = refl
filter_same f g P same (b ∷ bs) h = ap (λ (x : Bool). cond x (b ∷ filter f bs) (filter f bs)) (same b h.0) ∙ ap (λ (xs : List Stamp). cond (g b) (b ∷ xs) xs) (filter_same f g P same bs h.1)

pub kept_same : (c : Config) (file : FileId) (trace : List Line) → Grounds c file trace → (bs : List Stamp) → Every (StandsIn file (C file trace)) bs → kept (H c trace) file bs ≡ kept_by_vectors (H c trace) file bs
kept_same c file trace k bs h =
    filter_same (λ a. not (is_covered (H c trace) file bs a)) (λ a. not (list_any (has_below (H c trace) file a) bs)) (StandsIn file (C file trace))
    (λ a s. ap not (any_same (is_proper_ancestor (H c trace) file a) (has_below (H c trace) file a) (StandsIn file (C file trace)) (λ b t. agree c file trace k a b s t) bs h)) bs h

-- ---- every run ----

grounds : (c : Config) (lines : List ScheduleLine) (file : FileId) → Grounds c file (run_in c lines).trace
grounds c lines file =
    let w : World = run_in c lines in
    let numbered : CommitsAreNumbered (past_of w.trace) = run_numbered c lines (run_agrees c lines) in
    let s : SitesAreKnown w = run_sited c lines in
    let once : NoneTwice (commits_of file (past_of w.trace)) = run_stamps c lines file in
    let k : Sound file (past_of w.trace) = sound file (past_of w.trace) numbered s.commits once in
    record {
      counted = k.counted;
      own = all_own file (past_of w.trace) numbered s.commits;
      tells = vectors_tell file (past_of w.trace) numbered s.commits once;
      same = alike c file w.trace numbered s.commits once;
      order = run_ordered c lines file;
      under = λ root. under_all c file root w.trace numbered (run_roots c lines);
    }

pub run_vectors_keep : (c : Config) (lines : List ScheduleLine) → VectorsKeepTheSame c (run_in c lines)
run_vectors_keep c lines e file =
    let w : World = run_in c lines in
    kept_same c file w.trace (grounds c lines file) (known_in c w e file)
    (every_weaker (IsVersion (past_of w.trace) file) (StandsIn file (C file w.trace)) (known_in c w e file) (λ a h. written_stands file (past_of w.trace) a h.0 h.1) (candidates_stand c e file w.trace (run_numbered c lines (run_agrees c lines)) (run_named c lines)))
