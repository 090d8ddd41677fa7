-- The commits that were told are a history whose stamps are counted by its written vectors.
use Rattle.std.proofs.Common.{◌≡◌, ◌≢◌, ℕ, ◌+◌, ◌-◌, ◌≤◌, max, Bool, true, false, not, cond, List, [], ◌∷◌, refl, sym, ◌∙◌, ap, subst, arith, ◌⊎◌, inl, inr, ⊎_elim}
use Rattle.std.proofs.lemmas.Bool.{cases_eq}
use Rattle.std.proofs.lemmas.Bool.Decides.{nat_tests}
use Rattle.locus_ids.specs.declared.ids.FileId.{FileId}
use Rattle.locus_ids.specs.declared.ids.Stamp.{Stamp}
use Rattle.locus_ids.specs.Sizes.{sites_max}
use Rattle.version_vector.specs.Counters.{part, raised, AllLe}
use Rattle.version_vector.proofs.Counting.{part-joined, part-raised_same, part-raised_other}
use Rattle.commit_graph.specs.declared.history.Version.{Version}
use Rattle.commit_graph.specs.Versions.{same_file, same_stamp, is_in, is_ancestor}
use Rattle.commit_graph.specs.Vectors.{vector_of}
use Rattle.commit_graph.proofs.Names.{same_stamp_refl}
use Rattle.conflict_flags.specs.Written.{joined_all, is_format, written, NoneTwice}
use Rattle.conflict_flags.proofs.Ancestors.{Each, Counted, Counts, place, base, written_here, written_there, in_here, in_older, not_newest, fresh, tells, chained, part-zeros, named, Named}
use Rattle.conflict_flags.proofs.Numbers.{counts_ancestors}
use Rattle.conflict_flags.proofs.Vectors.{IsOwn, vector-written, alike_le}
use Rattle.trace_book.specs.declared.record.Record.{Record}
use Rattle.trace_book.specs.declared.record.Record.TheVariants as says
use Rattle.run_laws.specs.of_role_steps.Views.{Told, Shown}
use Rattle.site_laws.specs.Vectors.Written.{CountsNone, JoinsAll, WrittenAs, IsRaised, IsNumbered, NumberedTold, CommitsAreNumbered}
use Rattle.site_laws.specs.Vectors.HistoryCommits.{real_parents, with_record, with_told, commits_of, IsSite, SitedTold, CommitsAreSited, IsFormatStamp, VectorsTell}
use Rattle.site_laws.proofs.Vectors.HistoryNumbers.{Counting, counting}

-- ---- small facts ----

pub same_file_eq : (a b : FileId) → same_file a b ≡ true → a ≡ b
same_file_eq a b h = id_eq (grind (arith, nat_tests)) (grind (arith, nat_tests))
  where
    id_eq : a.group ≡ b.group → a.ino ≡ b.ino → a ≡ b
    id_eq e f = λ i. record { group = e i; ino = f i }

pub same_file_refl : (a b : FileId) → a ≡ b → same_file a b ≡ true
same_file_refl a b e = subst (λ (x : FileId). same_file a x ≡ true) e (own a)
  where
    own : (a : FileId) → same_file a a ≡ true
    own a = grind (arith, nat_tests)

false_true : {b : Bool} → b ≡ false → b ≡ true → ⊥
false_true e f = absurd (cc)

format_test : (p : Stamp) → IsFormatStamp p → is_format p ≡ true
format_test p h = let a : p.site ≡ 0 = h.site in let b : p.n ≡ 0 = h.number in grind (arith, nat_tests)

not_format : (s : Stamp) → 1 ≤ s.site → is_format s ≡ false
not_format s h = grind (arith, nat_tests)

raised_alike : (a b : List ℕ) (i t : ℕ) → ((u : ℕ) → part a u ≡ part b u) → part (raised a i) t ≡ part (raised b i) t
raised_alike a b i t h =
    ⊎_elim
    (λ (e : t ≡ i). subst (λ (u : ℕ). part (raised a i) u ≡ part (raised b i) u) (sym e) (part-raised_same a i ∙ (ap (λ (n : ℕ). n + 1) (h i) ∙ sym (part-raised_same b i))))
    (λ (e : t ≢ i). part-raised_other a i t e ∙ (h t ∙ sym (part-raised_other b i t e)))
    (cases_eq t i)

-- ---- versions that were told ----

-- the format's version, or one of the history with its written vector
abbrev pub Stands : FileId → List Version → Stamp → List ℕ → Type 0
Stands file h stamp vector = (IsFormatStamp stamp × CountsNone vector) ⊎ ((is_in h file stamp ≡ true) × ((t : ℕ) → part vector t ≡ part (written h file stamp) t))

pub record Sound (file : FileId) (past : List Told) : Type 0 where
  pub counted : Counted file (commits_of file past)
  pub stands : (stamp : Stamp) (vector : List ℕ) → WrittenAs past file stamp vector → Stands file (commits_of file past) stamp vector

-- ---- parents ----

max_left : (a b : ℕ) → a ≡ 0 → max a b ≡ b
max_left a b e = grind (arith, nat_tests)

drop_format : (p : Stamp) (ps : List Stamp) → is_format p ≡ true → real_parents (p ∷ ps) ≡ real_parents ps
drop_format p ps e = ap (λ (b : Bool). cond (not b) (p ∷ real_parents ps) (real_parents ps)) e

keep_real : (p : Stamp) (ps : List Stamp) → is_format p ≡ false → real_parents (p ∷ ps) ≡ p ∷ real_parents ps
keep_real p ps e = ap (λ (b : Bool). cond (not b) (p ∷ real_parents ps) (real_parents ps)) e

-- the join of the written vectors of the parents, by the history
abbrev Joined : FileId → List Told → List Stamp → ℕ → ℕ
Joined file past ps t = part (joined_all (written (commits_of file past) file) (real_parents ps)) t

one_joined : (file : FileId) (past : List Told) → Sound file past → (p : Stamp) (ps : List Stamp) (a b : List ℕ) (n t : ℕ) → n ≡ max (part a t) (part b t) → part b t ≡ Joined file past ps t → Stands file (commits_of file past) p a → n ≡ Joined file past (p ∷ ps) t
one_joined file past k p ps a b n t is rest (inl f) = is ∙ (max_left (part a t) (part b t) (f.1 t) ∙ (rest ∙ sym (ap (λ (qs : List Stamp). part (joined_all (written (commits_of file past) file) qs) t) (drop_format p ps (format_test p f.0)))))
one_joined file past k p ps a b n t is rest (inr f) =
    let W : Stamp → List ℕ = written (commits_of file past) file in
    let name : Named p = named file (commits_of file past) k.counted p f.0 in
    is ∙ (ap (λ (i : ℕ). max i (part b t)) (f.1 t) ∙ (ap (λ (i : ℕ). max (part (W p) t) i) rest ∙ (sym (part-joined (W p) (joined_all W (real_parents ps)) t) ∙ sym (ap (λ (qs : List Stamp). part (joined_all W qs) t) (keep_real p ps (not_format p name.low))))))

joined_here : (file : FileId) (past : List Told) → Sound file past → (ps : List Stamp) (vector : List ℕ) → JoinsAll (WrittenAs past file) ps vector → (t : ℕ) → part vector t ≡ Joined file past ps t
joined_here file past k [] vector h t = h t ∙ sym (part-zeros sites_max t)
joined_here file past k (p ∷ ps) vector h t = one_joined file past k p ps h.0 h.1 (part vector t) t (h.4 t) (joined_here file past k ps h.1 h.3 t) (k.stands p h.0 h.2)

abbrev Stand : FileId → List Told → List Stamp → Type 0
Stand file past qs = Each (λ p. is_in (commits_of file past) file p ≡ true) qs

one_stand : (file : FileId) (past : List Told) → Sound file past → (p : Stamp) (ps : List Stamp) (a : List ℕ) → Stand file past (real_parents ps) → Stands file (commits_of file past) p a → Stand file past (real_parents (p ∷ ps))
one_stand file past k p ps a rest (inl f) = subst (Stand file past) (sym (drop_format p ps (format_test p f.0))) rest
one_stand file past k p ps a rest (inr f) = let name : Named p = named file (commits_of file past) k.counted p f.0 in subst (Stand file past) (sym (keep_real p ps (not_format p name.low))) (f.0, rest)

stand_here : (file : FileId) (past : List Told) → Sound file past → (ps : List Stamp) (vector : List ℕ) → JoinsAll (WrittenAs past file) ps vector → Stand file past (real_parents ps)
stand_here file past k [] vector h = tt
stand_here file past k (p ∷ ps) vector h = one_stand file past k p ps h.0 (stand_here file past k ps h.1 h.3) (k.stands p h.0 h.2)

-- ---- one record more ----

-- the version of a commit
abbrev pub version_made : FileId → ℕ → Stamp → List Stamp → List ℕ → Version
version_made g s stamp parents content = record { file = g; site = s; stamp = stamp; parents = real_parents parents; content = content }

counts_here : (file : FileId) (older : List Told) (g : FileId) (s : ℕ) (stamp : Stamp) (parents : List Stamp) (content : List ℕ) → g ≡ file → Sound file older → IsSite s → IsNumbered older g s stamp parents → Counts file (version_made g s stamp parents content) (commits_of file older)
counts_here file older g s stamp parents content e k site n =
    let joins : JoinsAll (WrittenAs older file) parents n.base = subst (λ (f : FileId). JoinsAll (WrittenAs older f) parents n.base) e n.joins in
    let at : s - 1 ≡ stamp.site - 1 = ap (λ (i : ℕ). i - 1) (sym n.own) in
    let h : List Version = commits_of file older in
    let base_at : part n.base (s - 1) ≡ part (joined_all (written h file) (real_parents parents)) (stamp.site - 1) = ap (part n.base) at ∙ joined_here file older k parents n.base joins (stamp.site - 1) in
    record {
      mine = e;
      low = (let a : stamp.site ≡ s = n.own in let b : 1 ≤ s = site.low in omega (arith, a, b));
      stand = stand_here file older k parents n.base joins;
      count = n.number ∙ (part-raised_same n.base (s - 1) ∙ ap (λ (i : ℕ). i + 1) base_at);
    }

-- an older version under a new one
older_stands : (file : FileId) (v : Version) (h : List Version) (stamp : Stamp) (vector : List ℕ) → v.file ≡ file → is_in h file v.stamp ≡ false → Stands file h stamp vector → Stands file (v ∷ h) stamp vector
older_stands file v h stamp vector mine new (inl f) = inl f
older_stands file v h stamp vector mine new (inr f) =
    inr (in_older file v h stamp f.0, λ t. f.1 t ∙ sym (ap (λ (u : List ℕ). part u t) (written_there file v h stamp mine (not_newest file v.stamp stamp h new f.0))))

new_stands : (file : FileId) (older : List Told) (g : FileId) (s : ℕ) (made : Stamp) (parents : List Stamp) (content : List ℕ) (stamp : Stamp) (vector : List ℕ) → g ≡ file → Sound file older → Counts file (version_made g s made parents content) (commits_of file older) → made.site ≡ s → made ≡ stamp → IsRaised (WrittenAs older g) s parents vector → Stands file (version_made g s made parents content ∷ commits_of file older) stamp vector
new_stands file older g s made parents content stamp vector e k c own same r =
    let v : Version = version_made g s made parents content in
    let h : List Version = commits_of file older in
    let joins : JoinsAll (WrittenAs older file) parents r.base = subst (λ (f : FileId). JoinsAll (WrittenAs older f) parents r.base) e r.joins in
    let test : same_stamp made stamp ≡ true = subst (λ (x : Stamp). same_stamp made x ≡ true) same (same_stamp_refl made) in
    let at : s - 1 ≡ place made = ap (λ (i : ℕ). i - 1) (sym own) in
    inr (
      in_here file v h stamp e test,
      λ t. ap (λ (u : List ℕ). part u t) r.raised_is ∙ (ap (λ (i : ℕ). part (raised r.base i) t) at ∙ (raised_alike r.base (base file v h) (place made) t (joined_here file older k parents r.base joins) ∙ sym (ap (λ (u : List ℕ). part u t) (written_here file v h stamp c test)))),
    )

-- a commit of the file
sound_commit : (file : FileId) (older : List Told) (g : FileId) (s : ℕ) (made : Stamp) (parents : List Stamp) (content : List ℕ) (b : Bool) → same_file g file ≡ b → Sound file older → IsSite s → IsNumbered older g s made parents →
    NoneTwice (cond b (version_made g s made parents content ∷ commits_of file older) (commits_of file older)) →
    Counted file (cond b (version_made g s made parents content ∷ commits_of file older) (commits_of file older)) × ((stamp : Stamp) (vector : List ℕ) → WrittenAs (Shown (says.Commit g s made parents content) ∷ older) file stamp vector → Stands file (cond b (version_made g s made parents content ∷ commits_of file older) (commits_of file older)) stamp vector)
sound_commit file older g s made parents content true e k site n once = ((c, k.counted), by_case)
  where
    mine : g ≡ file
    mine = same_file_eq g file e

    v : Version
    v = version_made g s made parents content

    c : Counts file v (commits_of file older)
    c = counts_here file older g s made parents content mine k site n

    by_case : (stamp : Stamp) (vector : List ℕ) → WrittenAs (Shown (says.Commit g s made parents content) ∷ older) file stamp vector → Stands file (v ∷ commits_of file older) stamp vector
    by_case stamp vector (inl w) = older_stands file v (commits_of file older) stamp vector mine (fresh file v (commits_of file older) mine once) (k.stands stamp vector w)
    by_case stamp vector (inr w) = new_stands file older g s made parents content stamp vector mine k c n.own w.1 w.2
sound_commit file older g s made parents content false e k site n once = (k.counted, by_case)
  where
    by_case : (stamp : Stamp) (vector : List ℕ) → WrittenAs (Shown (says.Commit g s made parents content) ∷ older) file stamp vector → Stands file (commits_of file older) stamp vector
    by_case stamp vector (inl w) = k.stands stamp vector w
    by_case stamp vector (inr w) = absurd (false_true e (same_file_refl g file w.0))

sound_record : (file : FileId) (older : List Told) (r : Record) → Sound file older → SitedTold (Shown r) → NumberedTold older (Shown r) → NoneTwice (with_record file r (commits_of file older)) → Sound file (Shown r ∷ older)
sound_record file older (says.Commit g s made parents content) k site n once =
    let c : Counted file (with_record file (says.Commit g s made parents content) (commits_of file older)) × ((stamp : Stamp) (vector : List ℕ) → WrittenAs (Shown (says.Commit g s made parents content) ∷ older) file stamp vector → Stands file (with_record file (says.Commit g s made parents content) (commits_of file older)) stamp vector) =
    sound_commit file older g s made parents content (same_file g file) refl k site n once in
    record { counted = c.0; stands = c.1 }
sound_record file older _ k site n once = record { counted = k.counted; stands = λ stamp vector w. old stamp vector w }
  where
    old : (stamp : Stamp) (vector : List ℕ) → WrittenAs older file stamp vector ⊎ ⊥ → Stands file (commits_of file older) stamp vector
    old stamp vector (inl w) = k.stands stamp vector w
    old stamp vector (inr w) = absurd w

sound_told : (file : FileId) (older : List Told) (x : Told) → Sound file older → SitedTold x → NumberedTold older x → NoneTwice (with_told file x (commits_of file older)) → Sound file (x ∷ older)
sound_told file older (Shown r) k site n once = sound_record file older r k site n once
sound_told file older _ k site n once = record { counted = k.counted; stands = λ stamp vector w. old stamp vector w }
  where
    old : (stamp : Stamp) (vector : List ℕ) → WrittenAs older file stamp vector ⊎ ⊥ → Stands file (commits_of file older) stamp vector
    old stamp vector (inl w) = k.stands stamp vector w
    old stamp vector (inr w) = absurd w

once_record : (file : FileId) (r : Record) (h : List Version) → NoneTwice (with_record file r h) → NoneTwice h
once_record file (says.Commit g s made parents content) h once = by_test (same_file g file) once
  where
    by_test : (b : Bool) → NoneTwice (cond b (version_made g s made parents content ∷ h) h) → NoneTwice h
    by_test true k = k.1
    by_test false k = k
once_record file _ h once = once

pub once_older : (file : FileId) (x : Told) (h : List Version) → NoneTwice (with_told file x h) → NoneTwice h
once_older file (Shown r) h once = once_record file r h once
once_older file _ h once = once

pub sound : (file : FileId) (past : List Told) → CommitsAreNumbered past → CommitsAreSited past → NoneTwice (commits_of file past) → Sound file past
sound file [] n s once = record { counted = tt; stands = λ stamp vector w. inl (record { site = w.site; number = w.number }, w.none) }
sound file (x ∷ older) n s once = sound_told file older x (sound file older n.1 s.1 (once_older file x (commits_of file older) once)) s.0 n.0 once

-- ---- what vectors tell ----

own_record : (file : FileId) (older : List Told) (r : Record) → SitedTold (Shown r) → NumberedTold older (Shown r) → Each IsOwn (commits_of file older) → Each IsOwn (with_record file r (commits_of file older))
own_record file older (says.Commit g s made parents content) site n k = by_test (same_file g file)
  where
    by_test : (b : Bool) → Each IsOwn (cond b (version_made g s made parents content ∷ commits_of file older) (commits_of file older))
    by_test true = (record { same = sym n.own; most = (let a : made.site ≡ s = n.own in let b : s ≤ sites_max = site.high in omega (arith, a, b)) }, k)
    by_test false = k
own_record file older _ site n k = k

own_told : (file : FileId) (older : List Told) (x : Told) → SitedTold x → NumberedTold older x → Each IsOwn (commits_of file older) → Each IsOwn (with_told file x (commits_of file older))
own_told file older (Shown r) site n k = own_record file older r site n k
own_told file older _ site n k = k

pub all_own : (file : FileId) (past : List Told) → CommitsAreNumbered past → CommitsAreSited past → Each IsOwn (commits_of file past)
all_own file [] n s = tt
all_own file (x ∷ older) n s = own_told file older x s.0 n.0 (all_own file older n.1 s.1)

pub vectors_tell : (file : FileId) (past : List Told) → CommitsAreNumbered past → CommitsAreSited past → NoneTwice (commits_of file past) → VectorsTell file (commits_of file past)
vectors_tell file past n s once =
    let h : List Version = commits_of file past in
    let k : Sound file past = sound file past n s once in
    let c : Counting file h = counting file h k.counted once in
    let own : Each IsOwn h = all_own file past n s in
    record {
      tell = λ a b ha hb. (let r : (is_ancestor h file a b ≡ true → AllLe (written h file a) (written h file b)) × (AllLe (written h file a) (written h file b) → is_ancestor h file a b ≡ true) = tells file h k.counted once a b ha hb in (
        λ e. alike_le (written h file a) (written h file b) (vector_of h file a) (vector_of h file b) (vector-written file h k.counted own a) (vector-written file h k.counted own b) (r.0 e),
        λ le. r.1 (alike_le (vector_of h file a) (vector_of h file b) (written h file a) (written h file b) (λ t. sym (vector-written file h k.counted own a t)) (λ t. sym (vector-written file h k.counted own b t)) le),
      ));
      numbered = c.numbered;
      chain = λ a b ha hb site le. chained file h k.counted a b ha hb site le;
      counted = λ a site ha low. sym (vector-written file h k.counted own a (site - 1)) ∙ counts_ancestors file h k.counted once c.numbered a site ha low;
    }
