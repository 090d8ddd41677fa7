-- Reading entries one by one, as the loop does.
use Rattle.std.proofs.Common.{◌≡◌, ◌≢◌, ℕ, suc, ◌-◌, ◌+◌, ◌≤◌, ◌<◌, ◌==◌, true, false, List, [], ◌∷◌, ◌++◌, length, Ok, Err, refl, sym, ap, ◌∙◌, append_assoc, reverse, arith}
use Rattle.std.proofs.lemmas.List.{append-nil, reverse-append}
use Rattle.std.proofs.lemmas.Bool.Decides.{nat_tests}
use Rattle.field_codec.specs.declared.faults.FieldFault.{FieldFault}
use Rattle.field_codec.specs.Codec.{Unread, Read, ◌>>=◌}
use Rattle.field_codec.specs.declared.faults.ReadError.{ReadError}
use Rattle.field_codec.specs.declared.faults.ReadError.TheVariants.{Field, NoMemory}
use Rattle.field_codec.specs.Reads.{Gives}
use Rattle.field_codec.proofs.Loop.{with_front}
use Rattle.dir_format.specs.declared.entry.Entry.{Entry}
use Rattle.dir_format.specs.Grammar.{entry_after, read_entries, entries_alone}

regroup : (front : List Entry) (d : Entry) (read : Read (List Entry)) → with_front front (read >>= λ ds. Ok (d ∷ ds.0, ds.1)) ≡ with_front (front ++ d ∷ []) read
regroup front d (Ok s) = ap (λ (ds : List Entry). Ok (ds, s.1)) (simp append_assoc)
regroup front d (Err e) = refl

reverse-push : (front : List Entry) (d : Entry) → reverse (front ++ d ∷ []) ≡ d ∷ reverse front
reverse-push front d = reverse-append front (d ∷ [])

pub goes_on : (front : List Entry) (most i : ℕ) (u : Unread) (d : Entry) (after : Unread) (total : Read (List Entry)) → i < most → (length u.bytes == 0) ≡ false
    → (entry_after (reverse front)).read u ≡ Ok (d, after) → with_front front (read_entries (most - i) (reverse front) u) ≡ total
    → with_front (front ++ d ∷ []) (read_entries (most - (i + 1)) (reverse (front ++ d ∷ [])) after) ≡ total
unfolding read_entries
goes_on front most i u d after total lt some h so_far =
    let k : most - i ≡ suc (most - (i + 1)) = omega arith in
    let one : with_front front (read_entries (most - i) (reverse front) u) ≡ with_front (front ++ d ∷ []) (read_entries (most - (i + 1)) (d ∷ reverse front) after) =
    rw (k, some, h) (regroup front d (read_entries (most - (i + 1)) (d ∷ reverse front) after)) in
    ap (λ (before : List Entry). with_front (front ++ d ∷ []) (read_entries (most - (i + 1)) before after)) (reverse-push front d) ∙ sym one ∙ so_far

pub ends : (front before : List Entry) (most i : ℕ) (u : Unread) (fault : FieldFault) (total : Read (List Entry)) → i < most → (length u.bytes == 0) ≡ false
    → (entry_after before).read u ≡ Err fault → with_front front (read_entries (most - i) before u) ≡ total → total ≡ Err fault
unfolding read_entries
ends front before most i u fault total lt some h so_far =
    let k : most - i ≡ suc (most - (i + 1)) = omega arith in
    let one : with_front front (read_entries (most - i) before u) ≡ Err fault = rw (k, some, h) refl in
    sym so_far ∙ one

pub stops : (front before : List Entry) (most i : ℕ) (u : Unread) (total : Read (List Entry)) → i < most → (length u.bytes == 0) ≡ true
    → with_front front (read_entries (most - i) before u) ≡ total → total ≡ Ok (front, u)
unfolding read_entries
stops front before most i u total lt none so_far =
    let k : most - i ≡ suc (most - (i + 1)) = omega arith in
    let one : with_front front (read_entries (most - i) before u) ≡ Ok (front, u) = rw (k, none) (ap (λ (ds : List Entry). Ok (ds, u)) (append-nil front)) in
    sym so_far ∙ one

pub is_done : (front before : List Entry) (most i : ℕ) (u : Unread) (total : Read (List Entry)) → most ≤ i → with_front front (read_entries (most - i) before u) ≡ total → total ≡ Ok (front, u)
unfolding read_entries
is_done front before most i u total le so_far =
    let k : most - i ≡ 0 = omega arith in
    let one : with_front front (read_entries (most - i) before u) ≡ Ok (front, u) = rw k (ap (λ (ds : List Entry). Ok (ds, u)) (append-nil front)) in
    sym so_far ∙ one

front_of_nothing : (read : Read (List Entry)) → with_front [] read ≡ read
front_of_nothing (Ok s) = refl
front_of_nothing (Err e) = refl

pub starts : (most : ℕ) (u : Unread) → with_front [] (read_entries (most - 0) [] u) ≡ read_entries most [] u
starts most u = let k : most - 0 ≡ most = omega arith in rw k (front_of_nothing (read_entries most [] u))

pub ends_in_memory : {X : Type 0} (one : X → Entry × Unread) (front before : List Entry) (most i : ℕ) (u : Unread) (fault : ReadError) (total : Read (List Entry)) → i < most
    → (length u.bytes == 0) ≡ false → Gives one (Err fault) ((entry_after before).read u) → with_front front (read_entries (most - i) before u) ≡ total → Gives {X = List Entry} (λ ds. ds) (Err fault) (entries_alone total)
ends_in_memory one front before most i u (Field e) total lt some h so_far = ap entries_alone (ends front before most i u e total lt some h so_far)
ends_in_memory one front before most i u NoMemory total lt some h so_far = tt

pub none_left : (n m : ℕ) → n ≡ m → n ≡ 0 → (m == 0) ≡ true
none_left n m e z = grind (arith, nat_tests)

pub some_left : (n m : ℕ) → n ≡ m → n ≢ 0 → (m == 0) ≡ false
some_left n m e z = grind (arith, nat_tests)
