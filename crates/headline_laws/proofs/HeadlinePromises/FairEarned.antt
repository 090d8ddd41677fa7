-- When a close of an instance may tell a version, by one answer more; and which operations make it so.
use Rattle.std.proofs.Common.{◌≡◌, ℕ, zero, suc, ◌+◌, ◌-◌, ◌==◌, nat_lt, Bool, true, false, not, cond, ◌&&◌, ◌||◌, List, [], ◌∷◌, ◌++◌, length, take, Option, Some, None, refl, sym, ◌∙◌, ap, subst, arith, ◌⊎◌, inl, inr}
use Rattle.std.specs.List.{find}
use Rattle.std.specs.Option.{is_some}
use Rattle.std.proofs.lemmas.List.{take_all}
use Rattle.locus_ids.specs.declared.ids.FileId.{FileId}
use Rattle.locus_ids.specs.declared.ids.Mode.{Mode}
use Rattle.locus_ids.specs.declared.ids.Mode.TheVariants as mode
use Rattle.locus_ids.specs.declared.ids.Serial.{Serial}
use Rattle.locus_ids.specs.declared.ids.Stamp.{Stamp}
use Rattle.trace_book.specs.declared.call.OpenMode.TheVariants as how
use Rattle.trace_book.specs.declared.operation.Op.{Op}
use Rattle.trace_book.specs.declared.operation.Op.TheVariants as op
use Rattle.trace_book.specs.declared.operation.Outcome.{Outcome}
use Rattle.trace_book.specs.declared.operation.Outcome.TheVariants as outcome
use Rattle.trace_book.specs.declared.operation.What.{What}
use Rattle.dir_format.specs.Contents.{entries_of, is_dir}
use Rattle.dir_format.specs.declared.entry.Entry.{Entry}
use Rattle.dir_format.specs.declared.looking.LookResult.{LookResult}
use Rattle.dir_format.specs.declared.looking.LookResult.TheVariants as looked
use Rattle.dir_format.specs.Lookups.{lookup, shown_names, has_name}
use Rattle.dir_format.specs.Effects.{DirEffect, probe_effect, probe_beside, find_effect, find_by, empty_effect, empty_among}
use Rattle.trace_book.specs.Names.{is_name}
use Rattle.file_effects.specs.Effects.{Effect, in_directory, on_directory, is_refusal}
use Rattle.file_effects.specs.Works.{counted, carried_out, begins_owing}
use Rattle.file_effects.specs.declared.work.Work.{Work}
use Rattle.call_rules.specs.declared.answer.Answer.{Answer}
use Rattle.call_rules.specs.declared.answer.Answer.TheVariants as answer
use Rattle.call_rules.specs.declared.want.Want.{Want}
use Rattle.call_rules.specs.declared.want.Want.TheVariants as want
use Rattle.tree_model.specs.Working.{operated_by}
use Rattle.lawful_trace.specs.Progress.{outcome_answer, granted_answer}
use Rattle.lawful_trace.specs.TreeRows.{is_open_of, is_next_or_again}
use Rattle.promises.specs.Past.{Past, Epoch, Instance}
use Rattle.promises.specs.Tree.{effect_on, work_after}
use Rattle.past_laws.proofs.Names.{false_true, both_parts, number_eq, serial_own}
use Rattle.headline_laws.specs.HeadlinePromises.Fair.{Script, changes, earns, closes, won_after, won_by, none_won}
use Rattle.headline_laws.proofs.HeadlinePromises.FairAnswers.{IsNoClose}

-- One answer more.

won_more : (won : Serial → Bool) (s : Script) (xs : List Answer) (a : Answer) (i : Serial) → won_by won s (xs ++ a ∷ []) i ≡ won_after (won_by won s xs) (s xs) a i
won_more won s [] a i = refl
won_more won s (x ∷ xs) a i = won_more (won_after won (s []) x) (λ ys. s (x ∷ ys)) xs a i

pub no_close : (w : Want) (i : Serial) → IsNoClose w → closes w i ≡ false
no_close (want.Close j) i h = absurd h
no_close _ i h = refl

pub still_won : (s : Script) (xs : List Answer) (a : Answer) (i : Serial) → closes (s xs) i ≡ false → won_by none_won s xs i ≡ true → won_by none_won s (xs ++ a ∷ []) i ≡ true
still_won s xs a i apart h = won_more none_won s xs a i ∙ (ap (λ (b : Bool). not b && (won_by none_won s xs i || earns (s xs) a i)) apart ∙ ap (λ (b : Bool). b || earns (s xs) a i) h)

pub now_won : (s : Script) (xs : List Answer) (a : Answer) (i : Serial) → closes (s xs) i ≡ false → earns (s xs) a i ≡ true → won_by none_won s (xs ++ a ∷ []) i ≡ true
now_won s xs a i apart h = won_more none_won s xs a i ∙ (ap (λ (b : Bool). not b && (won_by none_won s xs i || earns (s xs) a i)) apart ∙ (ap (λ (b : Bool). won_by none_won s xs i || b) h ∙ or_true (won_by none_won s xs i)))
  where
    or_true : (b : Bool) → b || true ≡ true
    or_true true = refl
    or_true false = refl

-- a look earns nothing and closes nothing
look_won : (won : Serial → Bool) (s : Script) (xs : List Answer) (n : ℕ) (f : FileId) (w : What) (i : Serial) → length xs ≡ suc n → s (take n xs) ≡ want.Look f w → won_by won s xs i ≡ true → won_by won s (take n xs) i ≡ true
look_won won s [] n f w i l asks h = absurd (omega arith)
look_won won s (x ∷ []) zero f w i l asks h = or_none (won i) (subst (λ (v : Want). (not (closes v i) && (won i || earns v x i)) ≡ true) asks h)
  where
    or_none : (b : Bool) → b || false ≡ true → b ≡ true
    or_none true k = refl
    or_none false k = k
look_won won s (x ∷ []) (suc m) f w i l asks h = absurd (omega arith)
look_won won s (x ∷ y ∷ ys) zero f w i l asks h = absurd (omega arith)
look_won won s (x ∷ y ∷ ys) (suc m) f w i l asks h = look_won (won_after won (s []) x) (λ zs. s (x ∷ zs)) (y ∷ ys) m f w i (less l) asks h
  where
    less : suc (suc (length ys)) ≡ suc (suc m) → suc (length ys) ≡ suc m
    less q = omega arith

pub looked_won : (s : Script) (xs : List Answer) (m : ℕ) (a : Answer) (f : FileId) (w : What) (i : Serial) → is_next_or_again m (length xs) ≡ true → s (take (m - 1) xs) ≡ want.Look f w → won_by none_won s xs i ≡ true → won_by none_won s (take (m - 1) xs ++ a ∷ []) i ≡ true
looked_won s xs m a f w i numbered asks h = still_won s (take (m - 1) xs) a i (ap (λ (v : Want). closes v i) asks) (at (m == length xs + 1) refl numbered)
  where
    at : (b : Bool) → (m == length xs + 1) ≡ b → (b || (nat_lt 0 m && (m == length xs))) ≡ true → won_by none_won s (take (m - 1) xs) i ≡ true
    at true e j = ap (λ (ys : List Answer). won_by none_won s ys i) (all_of (number_eq m (length xs + 1) e)) ∙ h
      where
        less : (r k : ℕ) → r ≡ k + 1 → r - 1 ≡ k
        less r k q = omega arith

        all_of : m ≡ length xs + 1 → take (m - 1) xs ≡ xs
        all_of q = ap (λ (k : ℕ). take k xs) (less m (length xs) q) ∙ take_all (length xs) xs (omega arith)
    at false e j = look_won none_won s xs (m - 1) f w i (sym (number_eq m (length xs) (both_parts (nat_lt 0 m) (m == length xs) j).1) ∙ up m (both_parts (nat_lt 0 m) (m == length xs) j).0) asks h
      where
        up : (r : ℕ) → nat_lt 0 r ≡ true → r ≡ suc (r - 1)
        up zero q = false_true q
        up (suc r) q = omega arith

-- a make and an open that resolves earn what they are granted
pub grant_earns : (m : Mode) (i : Serial) (f : FileId) (stamp : Option Stamp) (kept : List Stamp) (w : Want) → is_open_of m f w ≡ true → begins_owing m ≡ true → earns w (granted_answer m i f stamp kept) i ≡ true
grant_earns mode.Make i f stamp kept (want.Make group kind sites) asks h = serial_own i
grant_earns mode.Resolve i f stamp kept (want.Open g (how.Resolve site)) asks h = serial_own i
grant_earns mode.Read i f stamp kept w asks h = false_true h
grant_earns mode.Write i f stamp kept w asks h = false_true h
grant_earns mode.Mend i f stamp kept w asks h = false_true h
grant_earns mode.Make i f stamp kept _ asks h = false_true asks
grant_earns mode.Resolve i f stamp kept _ asks h = false_true asks

-- Operations.

-- a close of the instance may tell a version
abbrev pub earned : Work → Bool
earned w = w.owes || (is_some w.committed || w.fresh)

pub record TellsDone (o : Op) (result : Outcome) : Type 0 where
  pub change : changes o ≡ true
  pub told : Outcome
  pub is : outcome_answer result ≡ answer.Did told

did : (r : Outcome) → is_refusal r ≡ false → (z : Outcome) × (outcome_answer r ≡ answer.Did z)
did (outcome.No why) h = false_true (sym h)
did outcome.Done h = (outcome.Done, refl)
did (outcome.Found ino kind) h = (outcome.Found ino kind, refl)
did (outcome.Data bytes) h = (outcome.Data bytes, refl)
did (outcome.Committed stamp) h = (outcome.Committed stamp, refl)

counted_earned : (w : Work) → earned (counted w) ≡ true → earned w ≡ true
counted_earned w h = at w.owes (is_some w.committed) h
  where
    at : (a b : Bool) → (a || (b || false)) ≡ true → (a || (b || w.fresh)) ≡ true
    at true b k = refl
    at false true k = refl
    at false false k = false_true k

carried_earned : (a n b d : Bool) → ((a || n) || (b || false)) ≡ true → ((a || (b || d)) ≡ true) ⊎ (n ≡ true)
carried_earned true n b d h = inl refl
carried_earned false true b d h = inr refl
carried_earned false false true d h = inl refl
carried_earned false false false d h = false_true h

abbrev counts_of : Option Effect → Bool
counts_of None = false
counts_of (Some e) = e.counts

quiet : (b : Bool) (content : List ℕ) (d : DirEffect) → d.counts ≡ false → counts_of (cond b (in_directory content (Some d)) None) ≡ false
quiet false content d h = refl
quiet true content d h = at (is_dir d.entries)
  where
    at : (b : Bool) → counts_of (cond b (Some (on_directory content d)) None) ≡ false
    at true = h
    at false = refl

probe_quiet : (name : List ℕ) (ds : List Entry) → (probe_effect name ds).counts ≡ false
probe_quiet name ds = at (find (has_name name) ds)
  where
    either : (b : Bool) (x y : DirEffect) → x.counts ≡ false → y.counts ≡ false → (cond b x y).counts ≡ false
    either true x y h k = h
    either false x y h k = k

    at : (o : Option Entry) → (probe_beside name ds o).counts ≡ false
    at None = either _ _ _ refl refl
    at (Some d) = refl

find_quiet : (component : List ℕ) (ds : List Entry) → (find_effect component ds).counts ≡ false
find_quiet component ds = at (lookup ds component)
  where
    at : (r : LookResult) → (find_by component ds r).counts ≡ false
    at (looked.Found ino kind) = refl
    at looked.Absent = refl
    at (looked.Ambiguous a b) = refl

empty_quiet : (ds : List Entry) → (empty_effect ds).counts ≡ false
empty_quiet ds = at (shown_names ds)
  where
    at : (names : List (List ℕ)) → (empty_among ds names).counts ≡ false
    at [] = refl
    at (n ∷ ns) = refl

-- what counts is an operation that changes
counts_change : (p : Past) (t : Epoch) (o : Op) (x : Instance) (e : Effect) → effect_on p t o x ≡ Some e → e.counts ≡ true → changes o ≡ true
counts_change p t (op.Probe name) x e is k = false_true (sym (quiet (is_name name) x.work.content (probe_effect name (entries_of x.work.content)) (probe_quiet name (entries_of x.work.content))) ∙ (ap counts_of is ∙ k))
counts_change p t (op.Find component) x e is k = false_true (sym (quiet true x.work.content (find_effect component (entries_of x.work.content)) (find_quiet component (entries_of x.work.content))) ∙ (ap counts_of is ∙ k))
counts_change p t op.Empty x e is k = false_true (sym (quiet true x.work.content (empty_effect (entries_of x.work.content)) (empty_quiet (entries_of x.work.content))) ∙ (ap counts_of is ∙ k))
counts_change p t (op.Read at len) x e is k = false_true (ap counts_of is ∙ k)
counts_change p t _ x e is k = refl

operated_earned : (p : Past) (t : Epoch) (o : Op) (result : Outcome) (x : Instance) → earned (operated_by result (effect_on p t o x) x.work) ≡ true → (earned x.work ≡ true) ⊎ TellsDone o result
operated_earned p t o result x h = by (effect_on p t o x) refl h
  where
    by : (m : Option Effect) → effect_on p t o x ≡ m → earned (operated_by result m x.work) ≡ true → (earned x.work ≡ true) ⊎ TellsDone o result
    by None e k = inl (counted_earned x.work k)
    by (Some m) e k = of (is_refusal result) refl k
      where
        out : is_refusal result ≡ false → ((earned x.work ≡ true) ⊎ (m.counts ≡ true)) → (earned x.work ≡ true) ⊎ TellsDone o result
        out f (inl y) = inl y
        out f (inr y) = inr (record { change = counts_change p t o x m e y; told = (did result f).0; is = (did result f).1 })

        of : (b : Bool) → is_refusal result ≡ b → earned (cond b (counted x.work) (carried_out m x.work)) ≡ true → (earned x.work ≡ true) ⊎ TellsDone o result
        of true f j = inl (counted_earned x.work j)
        of false f j = out f (carried_earned x.work.owes m.counts (is_some x.work.committed) x.work.fresh j)

-- by an operation
pub earned_after : (p : Past) (t : Epoch) (o : Op) (result : Outcome) (x : Instance) → (o ≡ op.Abort → is_refusal result ≡ false) → earned (work_after p t o result x) ≡ true → (earned x.work ≡ true) ⊎ TellsDone o result
earned_after p t op.Commit result x abort h = inl (counted_earned x.work h)
earned_after p t op.Abort result x abort h = inr (record { change = refl; told = (did result (abort refl)).0; is = (did result (abort refl)).1 })
earned_after p t o result x abort h = operated_earned p t o result x h
