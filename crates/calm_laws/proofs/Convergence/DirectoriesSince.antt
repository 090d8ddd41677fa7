-- While the lines that are told since accept mends alone: who was in an epoch before and is in it then was in it all the while, and a call that
-- waits then waited before, or it is a mend.
use Rattle.std.proofs.Common.{◌≡◌, ℕ, ◌==◌, Bool, true, false, cond, not, ◌⊎◌, List, [], ◌∷◌, ◌++◌, filter, Option, Some, None, refl, sym, ◌∙◌, ap, subst, inl, inr, arith}
use Rattle.std.proofs.lemmas.Bool.Decides.{nat_tests}
use Rattle.role_steps.proofs.of_plain_facts.Options.{none_some, some_same}
use Rattle.role_steps.proofs.of_plain_facts.Tests.{true_false}
use Rattle.locus_ids.specs.declared.config.Config.{Config}
use Rattle.locus_ids.specs.declared.ids.EpochId.{EpochId}
use Rattle.trace_book.specs.Same.{same_call}
use Rattle.trace_book.specs.declared.record.Record.{Record}
use Rattle.trace_book.specs.declared.record.Record.TheVariants as says
use Rattle.role_steps.specs.Own.{Every}
use Rattle.role_steps.specs.Views.{Told, Shown}
use Rattle.the_run.specs.Kept.{Among}
use Rattle.the_run.specs.Worlds.{Line}
use Rattle.tree_model.specs.declared.accepted.Waiting.{Waiting}
use Rattle.tree_model.specs.Calls.{waiting}
use Rattle.tree_model.specs.Epochs.{epoch_of, has_joined}
use Rattle.tree_model.specs.Folds.{Trace}
use Rattle.tree_laws.specs.Following.{MayTell}
use Rattle.tree_laws.specs.Printed.{entries, onto_entries}
use Rattle.store_laws.proofs.Holdings.MendMends.{IsMendCall}
use Rattle.calm_laws.proofs.Convergence.DirectoriesTold.{AcceptsMends, RecordMends, ToldMends}

-- ---- epochs ----

gone : (b : Bool) (o : Option EpochId) (e : EpochId) → cond b None o ≡ Some e → o ≡ Some e
gone true o e k = absurd (none_some e k)
gone false o e k = k

-- who has joined an epoch doesn't join it again
inside_record : (c : Config) (n : ℕ) (r : Record) (older : List Line) (s : ℕ) (e : EpochId) → MayTell c older (Shown r) → has_joined (entries older) s e ≡ true → epoch_of (record { line = n; what = r } ∷ entries older) s ≡ Some e → epoch_of (entries older) s ≡ Some e
inside_record c n (says.Join z d members) older s e may joined k = over (z == s) refl k
  where
    equal : (i j : ℕ) → (i == j) ≡ true → i ≡ j
    equal i j h = grind (arith, nat_tests)

    over : (b : Bool) → (z == s) ≡ b → cond b (Some d) (epoch_of (entries older) s) ≡ Some e → epoch_of (entries older) s ≡ Some e
    over true q is = absurd (true_false (sym joined ∙ (ap (λ (i : ℕ). has_joined (entries older) i e) (sym (equal z s q)) ∙ (ap (has_joined (entries older) z) (sym (some_same d e is)) ∙ may.row.new))))
    over false q is = is
inside_record c n (says.Leave z d) older s e may joined k = gone (z == s) (epoch_of (entries older) s) e k
inside_record c n (says.Stopped z cause) older s e may joined k = gone (z == s) (epoch_of (entries older) s) e k
inside_record c n (says.Up z boot) older s e may joined k = gone (z == s) (epoch_of (entries older) s) e k
inside_record c n r older s e may joined k = k

pub inside_told : (c : Config) (n : ℕ) (x : Told) (older : List Line) (s : ℕ) (e : EpochId) → MayTell c older x → has_joined (entries older) s e ≡ true → epoch_of (onto_entries n x (entries older)) s ≡ Some e → epoch_of (entries older) s ≡ Some e
inside_told c n (Shown r) older s e may joined k = inside_record c n r older s e may joined k
inside_told c n _ older s e may joined k = k

-- ---- calls ----

kept_of : {A : Type 0} (p : A → Bool) (y : A) (xs : List A) → Among y (filter p xs) → Among y xs
kept_of p y [] a = absurd a
kept_of {A = A} p y (x ∷ xs) a = over (p x) a (kept_of p y xs)
  where
    over : (b : Bool) → Among {A = A} y (cond b (x ∷ filter p xs) (filter p xs)) → (Among y (filter p xs) → Among y xs) → Among y (x ∷ xs)
    over true (inl e) f = inl e
    over true (inr m) f = inr (f m)
    over false m f = inr (f m)

waits_record : (n : ℕ) (r : Record) (now : Trace) (y : Waiting) → RecordMends r → Among y (waiting (record { line = n; what = r } ∷ now)) → Among y (waiting now) ⊎ IsMendCall y.words
waits_record n (says.Accept s process id words) now y mends (inl e) = inr (subst (λ (z : Waiting). IsMendCall z.words) (sym e) mends)
waits_record n (says.Accept s process id words) now y mends (inr a) = inl a
waits_record n (says.Answer s process id reply) now y mends a = inl (kept_of (λ (w : Waiting). not (same_call w.call id)) y (waiting now) a)
waits_record n (says.Stopped s cause) now y mends a = inl (kept_of (λ (w : Waiting). not (w.site == s)) y (waiting now) a)
waits_record n r now y mends a = inl a

pub waits_told : (n : ℕ) (x : Told) (now : Trace) (y : Waiting) → ToldMends x → Among y (waiting (onto_entries n x now)) → Among y (waiting now) ⊎ IsMendCall y.words
waits_told n (Shown r) now y mends a = waits_record n r now y mends a
waits_told n _ now y mends a = inl a

pub waits_since : (new old : List Line) (y : Waiting) → Every AcceptsMends new → Among y (waiting (entries (new ++ old))) → Among y (waiting (entries old)) ⊎ IsMendCall y.words
waits_since [] old y mends a = inl a
waits_since (x ∷ xs) old y mends a = over (waits_told x.number x.told (entries (xs ++ old)) y mends.0 a) (waits_since xs old y mends.1)
  where
    over : Among y (waiting (entries (xs ++ old))) ⊎ IsMendCall y.words → (Among y (waiting (entries (xs ++ old))) → Among y (waiting (entries old)) ⊎ IsMendCall y.words) → Among y (waiting (entries old)) ⊎ IsMendCall y.words
    over (inl k) later = later k
    over (inr k) later = inr k
