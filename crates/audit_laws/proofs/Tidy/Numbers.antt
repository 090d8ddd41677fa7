-- How many numbers of processes stand for an instance, and what a close or a reply makes of it.
use Rattle.std.proofs.Common.{◌≡◌, ℕ, suc, ◌+◌, ◌==◌, ◌&&◌, ◌||◌, ◌≤◌, ◌⊎◌, inl, inr, not, Bool, true, false, cond, List, [], ◌∷◌, ◌++◌, length, filter, Option, Some, None, refl, sym, ap, ◌∙◌, arith}
use Rattle.std.specs.List.{list_any}
use Rattle.locus_ids.specs.declared.ids.EpochId.{EpochId}
use Rattle.locus_ids.specs.declared.ids.Serial.{Serial}
use Rattle.trace_book.specs.Same.{same_epoch, same_serial}
use Rattle.trace_book.specs.declared.call.Call.{Call}
use Rattle.trace_book.specs.declared.call.Call.TheVariants as call
use Rattle.trace_book.specs.declared.descriptor.Descriptor.{Descriptor}
use Rattle.trace_book.specs.declared.reply.Reply.{Reply}
use Rattle.trace_book.specs.declared.reply.Reply.TheVariants as reply
use Rattle.tree_model.specs.Working.{list_of}
use Rattle.promises.specs.Past.{CallSoFar, Named}
use Rattle.promises.specs.After.{change, held_again, held_by, is_freed, is_read_by, is_reading, named_by, taken_by}
use Rattle.plain_facts.proofs.Tests.{and_first, and_second}
use Rattle.past_laws.proofs.Names.{both_parts, number_eq}
use Rattle.past_laws.proofs.Changing.{change_none, filter_unchanged, keep_all}
use Rattle.past_laws.proofs.TreesLists.{any_within}
use Rattle.audit_laws.specs.Tidy.Users.{describes, is_fd, numbers}

-- ---- one number of a process and the others ----

-- the descriptors of the instance that are this number
abbrev of_fd : EpochId → Serial → ℕ → ℕ → Named → Bool
of_fd e i process fd d = describes e i d && is_fd process fd d

pub numbers_split : (e : EpochId) (i : Serial) (process fd : ℕ) (ds : List Named) → numbers e i ds ≡ numbers e i (filter (λ d. not (is_fd process fd d)) ds) + cond (list_any (of_fd e i process fd) ds) 1 0
numbers_split e i process fd [] = refl
numbers_split e i process fd (d ∷ ds) = at (is_fd process fd d) refl (numbers_split e i process fd ds)
  where
    rest : List Named
    rest = filter (λ x. not (is_fd process fd x)) ds

    some : Bool
    some = list_any (of_fd e i process fd) ds

    more : (m r n : ℕ) → m ≡ r + n → suc m ≡ suc r + n
    more m r n k = omega (arith, k)

    own : (a v : Bool) (m r : ℕ) → m ≡ r + cond v 1 0 → cond (a && not v) (suc m) m ≡ r + cond ((a && true) || v) 1 0
    own true true m r k = k
    own true false m r k = omega (arith, k)
    own false v m r k = k

    other : (a v s : Bool) (m r : ℕ) → m ≡ r + cond s 1 0 → cond (a && not v) (suc m) m ≡ cond (a && not v) (suc r) r + cond ((a && false) || s) 1 0
    other true true s m r k = k
    other true false s m r k = more m r (cond s 1 0) k
    other false v s m r k = k

    same : is_fd process fd d ≡ true → list_any (of_fd e i d.process d.fd) ds ≡ some
    same h = ap (λ n. list_any (of_fd e i n d.fd) ds) (number_eq d.process process (and_first (d.process == process) (d.fd == fd) h)) ∙ ap (λ n. list_any (of_fd e i process n) ds) (number_eq d.fd fd (and_second (d.process == process) (d.fd == fd) h))

    -- another number is not taken out
    kept : is_fd process fd d ≡ false → list_any (of_fd e i d.process d.fd) rest ≡ list_any (of_fd e i d.process d.fd) ds
    kept h = any_within (of_fd e i d.process d.fd) (λ x. not (is_fd process fd x)) (λ x k. (let parts : ((x.process == d.process) ≡ true) × ((x.fd == d.fd) ≡ true) = both_parts (x.process == d.process) (x.fd == d.fd) (and_second (describes e i x) (is_fd d.process d.fd x) k) in
        ap not (ap (λ n. (n == process) && (x.fd == fd)) (number_eq x.process d.process parts.0) ∙ (ap (λ n. (d.process == process) && (n == fd)) (number_eq x.fd d.fd parts.1) ∙ h)))) ds

    at : (b : Bool) → is_fd process fd d ≡ b → numbers e i ds ≡ numbers e i rest + cond some 1 0
        → numbers e i (d ∷ ds) ≡ numbers e i (cond (not b) (d ∷ rest) rest) + cond ((describes e i d && b) || some) 1 0
    at true h later = ap (λ v. cond (describes e i d && not v) (suc (numbers e i ds)) (numbers e i ds)) (same h) ∙ own (describes e i d) some (numbers e i ds) (numbers e i rest) later
    at false h later = other (describes e i d) (list_any (of_fd e i d.process d.fd) ds) some (numbers e i ds) (numbers e i rest) later
        ∙ ap (λ v. cond (describes e i d && not v) (suc (numbers e i rest)) (numbers e i rest) + cond ((describes e i d && false) || some) 1 0) (sym (kept h))

-- no more numbers than descriptors
pub numbers_most : (e : EpochId) (i : Serial) (ds : List Named) → numbers e i ds ≤ length (filter (describes e i) ds)
numbers_most e i [] = omega arith
numbers_most e i (d ∷ ds) = at (describes e i d) (list_any (of_fd e i d.process d.fd) ds) (numbers_most e i ds)
  where
    at : (a v : Bool) → numbers e i ds ≤ length (filter (describes e i) ds) → cond (a && not v) (suc (numbers e i ds)) (numbers e i ds) ≤ length (cond a (d ∷ filter (describes e i) ds) (filter (describes e i) ds))
    at true true h = omega (arith, h)
    at true false h = omega (arith, h)
    at false v h = h

-- ---- a close ----

freed_by : (words : Call) (process : ℕ) → ((fd : ℕ) × (words ≡ call.Close fd)) ⊎ ((ds : List Named) → list_any (is_freed words process) ds ≡ false)
freed_by (call.Close fd) process = inl (fd, refl)
freed_by _ process = inr none
  where
    none : (ds : List Named) → list_any (λ (d : Named). false) ds ≡ false
    none [] = refl
    none (d ∷ ds) = none ds

at_most : (a b : ℕ) → a ≡ b → a ≤ b
at_most a b e = omega (arith, e)

pub freed_fewer : (e : EpochId) (i : Serial) (words : Call) (process : ℕ) (ds : List Named) → numbers e i (filter (λ d. not (is_freed words process d)) ds) ≤ numbers e i ds
freed_fewer e i words process ds = of (freed_by words process)
  where
    of : ((fd : ℕ) × (words ≡ call.Close fd)) ⊎ ((xs : List Named) → list_any (is_freed words process) xs ≡ false) → numbers e i (filter (λ d. not (is_freed words process d)) ds) ≤ numbers e i ds
    of (inl closes) = rw (closes.1) (omega (arith, numbers_split e i process closes.0 ds))
    of (inr none) = at_most (numbers e i (filter (λ d. not (is_freed words process d)) ds)) (numbers e i ds) (ap (numbers e i) (keep_all (is_freed words process) ds (none ds)))

-- what a close frees stands for it no more
pub freed_one : (e : EpochId) (i : Serial) (process fd : ℕ) (ds : List Named) → list_any (of_fd e i process fd) ds ≡ true → numbers e i (filter (λ d. not (is_fd process fd d)) ds) + 1 ≤ numbers e i ds
freed_one e i process fd ds h = omega (arith, numbers_split e i process fd ds ∙ ap (λ v. numbers e i (filter (λ d. not (is_fd process fd d)) ds) + cond v 1 0) h)

-- ---- a reply ----

-- the instance that a descriptor names
abbrev pub is_of : EpochId → Serial → Descriptor → Bool
is_of e i d = same_epoch d.epoch e && same_serial d.inst i

-- how often a reply names it
abbrev pub taken : EpochId → Serial → Reply → CallSoFar → ℕ
taken e i r k = length (filter (is_of e i) (named_by r k))

none_renamed : (e : EpochId) (i : Serial) (process fd : ℕ) (f : Named → Named) → ((d : Named) → describes e i (f d) ≡ false) → (ds : List Named) → list_any (of_fd e i process fd) (change (is_fd process fd) f ds) ≡ false
none_renamed e i process fd f out [] = refl
none_renamed e i process fd f out (d ∷ ds) = rw (at (is_fd process fd d) refl) (none_renamed e i process fd f out ds)
  where
    never : (a b : Bool) → b ≡ false → (a && b) ≡ false
    never true b h = h
    never false b h = refl

    at : (b : Bool) → is_fd process fd d ≡ b → of_fd e i process fd (cond b (f d) d) ≡ false
    at true h = ap (λ b. b && is_fd process fd (f d)) (out d)
    at false h = never (describes e i d) (is_fd process fd d) h

-- one number gets another instance
renamed : (e : EpochId) (i : Serial) (process fd : ℕ) (f : Named → Named) → ((d : Named) → is_fd process fd (f d) ≡ is_fd process fd d) → (b : Bool) → ((d : Named) → describes e i (f d) ≡ b) → (ds : List Named) → numbers e i (change (is_fd process fd) f ds) ≤ numbers e i ds + cond b 1 0
renamed e i process fd f keep b is ds = sums (numbers e i (filter (λ d. not (is_fd process fd d)) ds)) (numbers e i ds) (numbers e i new) (cond (list_any (of_fd e i process fd) ds) 1 0) (cond (list_any (of_fd e i process fd) new) 1 0) (cond b 1 0)
    (numbers_split e i process fd ds)
    (numbers_split e i process fd new ∙ ap (λ xs. numbers e i xs + cond (list_any (of_fd e i process fd) new) 1 0)
    (filter_unchanged (λ d. not (is_fd process fd d)) (is_fd process fd) f (λ d h. ap not h) (λ d h. ap not (keep d ∙ h)) ds))
    (few b is)
  where
    new : List Named
    new = change (is_fd process fd) f ds

    sums : (r m n x y z : ℕ) → m ≡ r + x → n ≡ r + y → y ≤ z → n ≤ m + z
    sums r m n x y z g h k = omega (arith, g, h, k)

    one : (v : Bool) → cond v 1 0 ≤ 1
    one true = omega arith
    one false = omega arith

    few : (v : Bool) → ((d : Named) → describes e i (f d) ≡ v) → cond (list_any (of_fd e i process fd) new) 1 0 ≤ cond v 1 0
    few true h = one (list_any (of_fd e i process fd) new)
    few false h = at_most (cond (list_any (of_fd e i process fd) new) 1 0) 0 (ap (λ v. cond v 1 0) (none_renamed e i process fd f h ds))

held_so : (e : EpochId) (i : Serial) (process fd : ℕ) (o : Option Descriptor) (ds : List Named) → numbers e i (change (is_fd process fd) (held_by o) ds) ≤ numbers e i ds + length (filter (is_of e i) (list_of o))
held_so e i process fd None ds = at_most (numbers e i (change (is_fd process fd) (held_by None) ds)) (numbers e i ds + 0) (ap (numbers e i) (same ds) ∙ more (numbers e i ds))
  where
    each : (b : Bool) (d : Named) → cond b d d ≡ d
    each true d = refl
    each false d = refl

    same : (xs : List Named) → change (is_fd process fd) (held_by None) xs ≡ xs
    same [] = refl
    same (d ∷ xs) = ap (λ x. x ∷ change (is_fd process fd) (held_by None) xs) (each (is_fd process fd d) d) ∙ ap (λ ys. d ∷ ys) (same xs)

    more : (n : ℕ) → n ≡ n + 0
    more n = omega arith
held_so e i process fd (Some opening) ds = at (is_of e i opening) refl
  where
    at : (b : Bool) → is_of e i opening ≡ b → numbers e i (change (is_fd process fd) (held_by (Some opening)) ds) ≤ numbers e i ds + length (cond b (opening ∷ []) [])
    at true h = renamed e i process fd (held_by (Some opening)) (λ d. refl) true (λ d. h) ds
    at false h = renamed e i process fd (held_by (Some opening)) (λ d. refl) false (λ d. h) ds

-- the number that a read reads by, if the call is a read
read_by : (words : Call) (process : ℕ) → ((fd : ℕ) × (((d : Named) → is_read_by words process d ≡ is_fd process fd d) × (is_reading words ≡ true))) ⊎ ((ds : List Named) → list_any (is_read_by words process) ds ≡ false)
read_by (call.Read fd at len) process = inl (fd, (λ d. refl, refl))
read_by _ process = inr none
  where
    none : (ds : List Named) → list_any (λ (d : Named). false) ds ≡ false
    none [] = refl
    none (d ∷ ds) = none ds

-- a reply adds no more than it names
pub answer_numbers : (e : EpochId) (i : Serial) (r : Reply) (k : CallSoFar) (ds : List Named) → numbers e i (taken_by r k ++ held_again r k ds) ≤ numbers e i ds + taken e i r k
answer_numbers e i (reply.Opened fd) k ds = by k.granted
  where
    at : (b v : Bool) (d : Descriptor) → cond (b && not v) (suc (numbers e i ds)) (numbers e i ds) ≤ numbers e i ds + length (cond b (d ∷ []) [])
    at true true d = omega arith
    at true false d = omega arith
    at false v d = omega arith

    by : (o : Option Descriptor) → numbers e i (taken_by (reply.Opened fd) (record k { granted = o }) ++ ds) ≤ numbers e i ds + length (filter (is_of e i) (list_of o))
    by None = omega arith
    by (Some d) = at (is_of e i d) (list_any (of_fd e i k.process fd) ds) d
answer_numbers e i (reply.Data bytes) k ds = of (read_by k.words k.process)
  where
    least : (a b n : ℕ) → a ≡ b → a ≤ b + n
    least a b n h = omega (arith, h)

    of : ((fd : ℕ) × (((d : Named) → is_read_by k.words k.process d ≡ is_fd k.process fd d) × (is_reading k.words ≡ true))) ⊎ ((xs : List Named) → list_any (is_read_by k.words k.process) xs ≡ false)
        → numbers e i (change (is_read_by k.words k.process) (held_by k.granted) ds) ≤ numbers e i ds + length (filter (is_of e i) (cond (is_reading k.words) (list_of k.granted) []))
    of (inl reads) = (let by : is_read_by k.words k.process ≡ is_fd k.process reads.0 = λ j d. reads.1.0 d j in rw (by, reads.1.1) (held_so e i k.process reads.0 k.granted ds))
    of (inr none) = least (numbers e i (change (is_read_by k.words k.process) (held_by k.granted) ds)) (numbers e i ds) (length (filter (is_of e i) (cond (is_reading k.words) (list_of k.granted) [])))
        (ap (numbers e i) (change_none (is_read_by k.words k.process) (held_by k.granted) ds (none ds)))
answer_numbers e i r k ds = omega arith
