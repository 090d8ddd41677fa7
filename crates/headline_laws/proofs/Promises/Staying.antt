-- A site that is in an epoch at two moments of a lawful trace is in it between them: nobody joins the same epoch twice.
use Rattle.std.proofs.Common.{◌≡◌, ℕ, ◌==◌, ◌⊎◌, Bool, true, false, cond, not, ◌&&◌, ◌||◌, [], ◌∷◌, ◌++◌, Option, Some, None, refl, sym, ◌∙◌, ap, inl, inr}
use Rattle.role_steps.proofs.of_plain_facts.Numbers.{equal}
use Rattle.role_steps.proofs.of_plain_facts.Options.{none_some, some_same}
use Rattle.role_steps.proofs.of_plain_facts.Tests.{or_second, true_false}
use Rattle.locus_ids.specs.declared.config.Config.{Config}
use Rattle.locus_ids.specs.declared.ids.EpochId.{EpochId}
use Rattle.trace_book.specs.Same.{same_epoch}
use Rattle.trace_book.specs.declared.record.Record.{Record}
use Rattle.trace_book.specs.declared.record.Record.TheVariants as says
use Rattle.tree_model.specs.Epochs.{boot_of, epoch_after, epoch_of, has_joined, is_up, joined_after}
use Rattle.tree_model.specs.Folds.{Trace}
use Rattle.lawful_trace.specs.Lawful.{MayCome}
use Rattle.tree_laws.specs.Following.{RowsAreLawful}
use Rattle.tree_laws.proofs.Names.{same_epoch_eq, same_epoch_own}

module _ (c : Config) (e : EpochId) (s : ℕ) where
  -- the site has been in the epoch, and isn't
  record IsGone (t : Trace) : Type 0 where
    joined : has_joined t s e ≡ true
    outside : epoch_of t s ≡ Some e → ⊥

  none_of : (b : Bool) (old : Option EpochId) → (old ≡ Some e → ⊥) → cond b None old ≡ Some e → ⊥
  none_of true old h k = none_some e k
  none_of false old h k = h k

  joined_more : (r : Record) (old : Bool) → old ≡ true → joined_after r s e old ≡ true
  joined_more (says.Join t d members) old h = or_second ((t == s) && same_epoch d e) old h
  joined_more _ old h = h

  -- nobody joins it again
  not_again : (t : Trace) (site : ℕ) (d : EpochId) → has_joined t site d ≡ false → IsGone t → cond (site == s) (Some d) (epoch_of t s) ≡ Some e → ⊥
  not_again t site d new g = by_site (site == s) refl
    where
      by_site : (b : Bool) → (site == s) ≡ b → cond b (Some d) (epoch_of t s) ≡ Some e → ⊥
      by_site true q k = true_false (sym g.joined ∙ (ap (λ (x : ℕ). has_joined t x e) (sym (equal site s q)) ∙ (ap (has_joined t site) (sym (some_same d e k)) ∙ new)))
      by_site false q k = g.outside k

  gone_after : (t : Trace) (n : ℕ) (r : Record) → MayCome c t r → IsGone t → epoch_after r s (epoch_of t s) ≡ Some e → ⊥
  gone_after t n (says.Join site d members) may g = not_again t site d may.new g
  gone_after t n (says.Leave site d) may g = none_of (site == s) (epoch_of t s) g.outside
  gone_after t n (says.Stopped site cause) may g = none_of (site == s) (epoch_of t s) g.outside
  gone_after t n (says.Up site boot) may g = none_of (site == s) (epoch_of t s) g.outside
  gone_after t n _ may g = g.outside

  stays_gone : (xs t : Trace) → RowsAreLawful c (xs ++ t) → IsGone t → IsGone (xs ++ t)
  stays_gone [] t rows g = g
  stays_gone (r ∷ xs) t rows g =
      let k : IsGone (xs ++ t) = stays_gone xs t rows.1 g in
      record { joined = joined_more r.what (has_joined (xs ++ t) s e) k.joined; outside = gone_after (xs ++ t) r.line r.what rows.0 k }

  pub joined_later : (xs t : Trace) → has_joined t s e ≡ true → has_joined (xs ++ t) s e ≡ true
  joined_later [] t h = h
  joined_later (r ∷ xs) t h = joined_more r.what (has_joined (xs ++ t) s e) (joined_later xs t h)

  in_or_out : (o : Option EpochId) → (o ≡ Some e) ⊎ (o ≡ Some e → ⊥)
  in_or_out None = inr (λ k. none_some e k)
  in_or_out (Some d) = by_test (same_epoch d e) refl
    where
      by_test : (b : Bool) → same_epoch d e ≡ b → (Some d ≡ Some e) ⊎ (Some d ≡ Some e → ⊥)
      by_test true q = inl (ap Some (same_epoch_eq d e q))
      by_test false q = inr (λ k. true_false (sym (same_epoch_own e) ∙ (ap (λ (x : EpochId). same_epoch x e) (sym (some_same d e k)) ∙ q)))

  pub still_inside : (later now : Trace) → RowsAreLawful c (later ++ now) → has_joined now s e ≡ true → epoch_of (later ++ now) s ≡ Some e → epoch_of now s ≡ Some e
  still_inside later now rows joined last = by_case (in_or_out (epoch_of now s))
    where
      by_case : (epoch_of now s ≡ Some e) ⊎ (epoch_of now s ≡ Some e → ⊥) → epoch_of now s ≡ Some e
      by_case (inl k) = k
      by_case (inr k) = absurd ((stays_gone later now rows (record { joined = joined; outside = k })).outside last)

  -- ---- up, in one boot ----

  pub record IsSteady (start now : Trace) : Type 0 where
    pub up : is_up c now s ≡ true
    pub boot : boot_of now s ≡ boot_of start s

  up_again : (site boot : ℕ) (start t : Trace) (b : Bool) → cond b None (epoch_of t s) ≡ Some e → IsSteady start t → (b || is_up c t s ≡ true) × (cond b boot (boot_of t s) ≡ boot_of start s)
  up_again site boot start t true k h = absurd (none_some e k)
  up_again site boot start t false k h = (h.up, h.boot)

  stop_now : (start t : Trace) (b : Bool) → cond b None (epoch_of t s) ≡ Some e → IsSteady start t → (not b && is_up c t s) ≡ true
  stop_now start t true k h = absurd (none_some e k)
  stop_now start t false k h = h.up

  steady_after : (start t : Trace) (n : ℕ) (r : Record) → epoch_after r s (epoch_of t s) ≡ Some e → IsSteady start t → IsSteady start (record { line = n; what = r } ∷ t)
  steady_after start t n (says.Up site boot) k h = (let g : ((site == s) || is_up c t s ≡ true) × (cond (site == s) boot (boot_of t s) ≡ boot_of start s) = up_again site boot start t (site == s) k h in record { up = g.0; boot = g.1 })
  steady_after start t n (says.Stopped site cause) k h = record { up = stop_now start t (site == s) k h; boot = h.boot }
  steady_after start t n _ k h = record { up = h.up; boot = h.boot }

  -- from a moment on in the epoch the site is up in the same boot
  pub steady_now : (start xs : Trace) → is_up c start s ≡ true → ((later now : Trace) → xs ≡ later ++ now → epoch_of (now ++ start) s ≡ Some e) → IsSteady start (xs ++ start)
  steady_now start [] up inside = record { up = up; boot = refl }
  steady_now start (r ∷ xs) up inside = steady_after start (xs ++ start) r.line r.what (inside [] (r ∷ xs) refl) (steady_now start xs up (λ later now is. inside (r ∷ later) now (ap (λ (t : Trace). r ∷ t) is)))
