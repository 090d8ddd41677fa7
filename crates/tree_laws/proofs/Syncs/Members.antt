-- Calls of an epoch are of the boots that its list of members names, and a site that is in an epoch has joined it.
use Rattle.std.proofs.Common.{◌≡◌, ℕ, zero, suc, ◌==◌, Bool, true, false, ◌&&◌, ◌||◌, cond, List, [], ◌∷◌, Option, Some, None, refl, sym, ap, ◌∙◌, subst, ◌⊎◌, inl, inr}
use Rattle.role_steps.proofs.of_plain_facts.Numbers.{equal, equal_self}
use Rattle.role_steps.proofs.of_plain_facts.Options.{none_some, some_same}
use Rattle.locus_ids.specs.declared.config.Config.{Config}
use Rattle.locus_ids.specs.declared.ids.CallId.{CallId}
use Rattle.locus_ids.specs.declared.ids.EpochId.{EpochId}
use Rattle.locus_ids.specs.declared.sites.Members.{Members}
use Rattle.trace_book.specs.Same.{same_call, same_epoch}
use Rattle.trace_book.specs.declared.record.Record.{Record}
use Rattle.trace_book.specs.declared.record.Record.TheVariants as says
use Rattle.role_steps.specs.Views.{boot_in as table_boot_in}
use Rattle.the_run.specs.Worlds.{Line}
use Rattle.tree_model.specs.declared.accepted.Waiting.{Waiting}
use Rattle.tree_model.specs.Calls.{call_named, accepted_as}
use Rattle.tree_model.specs.Epochs.{boot_of, epoch_of, has_joined, members_of}
use Rattle.tree_model.specs.Folds.{Trace}
use Rattle.tree_model.specs.Packs.{boot_in}
use Rattle.lawful_trace.specs.Lawful.{MayCome}
use Rattle.lawful_trace.specs.TreeRows.{IsCallIn}
use Rattle.tree_laws.specs.Following.{IsFollowed, RowsAreLawful}
use Rattle.tree_laws.specs.Printed.{entries}
use Rattle.tree_laws.proofs.Fresh.{numbered}
use Rattle.tree_laws.proofs.Names.{same_call_eq, same_epoch_eq, same_epoch_own}
use Rattle.tree_laws.proofs.Rows.{followed_rows}

-- the list of members of the epoch names this boot of the site
abbrev pub NamesBoot : Trace → EpochId → ℕ → ℕ → Type 0
NamesBoot before e site boot = (m : Members) × (members_of before e ≡ Some m) × (boot_in m site ≡ boot)

record Booted (before : Trace) : Type 0 where
  inside : (s : ℕ) (e : EpochId) → epoch_of before s ≡ Some e → NamesBoot before e s (boot_of before s) × (has_joined before s e ≡ true)
  made : (d : CallId) (w : Waiting) (e : EpochId) → call_named before d ≡ Some w → w.epoch ≡ Some e → NamesBoot before e d.site d.boot

-- a list of members stays
boot_more : (c : Config) (line : ℕ) (r : Record) (before : Trace) → MayCome c before r → (e : EpochId) (site boot : ℕ) → NamesBoot before e site boot → NamesBoot (record { line = line; what = r } ∷ before) e site boot
boot_more c line (says.Join s d m) before may e site boot k = over (same_epoch d e) refl
  where
    same : d ≡ e → (members_of before d ≡ None) ⊎ (members_of before d ≡ Some m) → m ≡ k.0
    same is (inl none) = absurd (none_some k.0 (sym none ∙ (ap (members_of before) is ∙ k.1)))
    same is (inr some) = some_same m k.0 (sym some ∙ (ap (members_of before) is ∙ k.1))

    over : (b : Bool) → same_epoch d e ≡ b → (z : Members) × (cond b (Some m) (members_of before e) ≡ Some z) × (boot_in z site ≡ boot)
    over true is = (k.0, ap (λ (z : Members). Some z) (same (same_epoch_eq d e is) may.same), k.2)
    over false is = k
boot_more c line r before may e site boot k = k

joined_more : (line : ℕ) (r : Record) (before : Trace) (s : ℕ) (e : EpochId) → has_joined before s e ≡ true → has_joined (record { line = line; what = r } ∷ before) s e ≡ true
joined_more line (says.Join z d m) before s e k = over ((z == s) && same_epoch d e)
  where
    over : (b : Bool) → b || has_joined before s e ≡ true
    over true = refl
    over false = k
joined_more line r before s e k = k

module _ (c : Config) (line : ℕ) (before : Trace) (o : Booted before) where
  -- an epoch that a site is in stays so
  abbrev Stays : Record → ℕ → EpochId → Type 0
  Stays r s e = NamesBoot (record { line = line; what = r } ∷ before) e s (boot_of before s) × (has_joined (record { line = line; what = r } ∷ before) s e ≡ true)

  stays : (r : Record) → MayCome c before r → (s : ℕ) (e : EpochId) → epoch_of before s ≡ Some e → Stays r s e
  stays r may s e k = (let x : NamesBoot before e s (boot_of before s) × (has_joined before s e ≡ true) = o.inside s e k in (boot_more c line r before may e s (boot_of before s) x.0, joined_more line r before s e x.1))

  made_stays : (r : Record) → MayCome c before r → (d : CallId) (w : Waiting) (e : EpochId) → call_named before d ≡ Some w → w.epoch ≡ Some e → NamesBoot (record { line = line; what = r } ∷ before) e d.site d.boot
  made_stays r may d w e k m = boot_more c line r before may e d.site d.boot (o.made d w e k m)

  -- who has left is in none
  left_none : (r : Record) → MayCome c before r → (z s : ℕ) (e : EpochId) → cond (z == s) None (epoch_of before s) ≡ Some e → Stays r s e
  left_none r may z s e = over (z == s)
    where
      over : (b : Bool) → cond b None (epoch_of before s) ≡ Some e → Stays r s e
      over true k = absurd (none_some e k)
      over false k = stays r may s e k

  booted_next : (r : Record) → MayCome c before r → Booted (record { line = line; what = r } ∷ before)
  booted_next (says.Up z boot) may = record { inside = λ s e. over s e (z == s); made = λ d w e k m. made_stays (says.Up z boot) may d w e k m }
    where
      over : (s : ℕ) (e : EpochId) (b : Bool) → cond b None (epoch_of before s) ≡ Some e → NamesBoot (record { line = line; what = says.Up z boot } ∷ before) e s (cond b boot (boot_of before s)) × (has_joined (record { line = line; what = says.Up z boot } ∷ before) s e ≡ true)
      over s e true k = absurd (none_some e k)
      over s e false k = stays (says.Up z boot) may s e k
  booted_next (says.Stopped z cause) may = record { inside = λ s e. left_none (says.Stopped z cause) may z s e; made = λ d w e k m. made_stays (says.Stopped z cause) may d w e k m }
  booted_next (says.Leave z at) may = record { inside = λ s e. left_none (says.Leave z at) may z s e; made = λ d w e k m. made_stays (says.Leave z at) may d w e k m }
  booted_next (says.Join z at members) may = record { inside = λ s e. over s e (z == s) refl; made = λ d w e k m. made_stays (says.Join z at members) may d w e k m }
    where
      now : NamesBoot (record { line = line; what = says.Join z at members } ∷ before) at z (boot_of before z) × (has_joined (record { line = line; what = says.Join z at members } ∷ before) z at ≡ true)
      now = (
        (members, ap (λ (b : Bool). cond b (Some members) (members_of before at)) (same_epoch_own at), may.member),
        ap (λ (b : Bool). b && same_epoch at at || has_joined before z at) (equal_self z) ∙ ap (λ (b : Bool). b || has_joined before z at) (same_epoch_own at),
      )

      over : (s : ℕ) (e : EpochId) (b : Bool) → (z == s) ≡ b → cond b (Some at) (epoch_of before s) ≡ Some e → Stays (says.Join z at members) s e
      over s e true q k = subst (λ (y : EpochId). Stays (says.Join z at members) s y) (some_same at e k) (subst (λ (y : ℕ). Stays (says.Join z at members) y at) (equal z s q) now)
      over s e false q k = stays (says.Join z at members) may s e k
  booted_next (says.Accept z process call words) may = record { inside = λ s e k. stays (says.Accept z process call words) may s e k; made = λ d w e k m. over d w e (same_call call d) refl k m }
    where
      over : (d : CallId) (w : Waiting) (e : EpochId) (b : Bool) → same_call call d ≡ b → cond b (Some (accepted_as before z process call words)) (call_named before d) ≡ Some w → w.epoch ≡ Some e → NamesBoot before e d.site d.boot
      over d w e true q k m =
          let is : d ≡ record { site = z; boot = boot_of before z; n = call.n } = sym (same_call_eq call d q) ∙ named in
          let here : epoch_of before z ≡ Some e = ap (λ (x : Waiting). x.epoch) (some_same (accepted_as before z process call words) w k) ∙ m in
          subst (λ (x : CallId). NamesBoot before e x.site x.boot) (sym is) (o.inside z e here).0
        where
          named : call ≡ record { site = z; boot = boot_of before z; n = call.n }
          named = (let x = numbered c before z process call words may in x ∙ ap (λ (i : ℕ). record { site = z; boot = boot_of before z; n = i }) (sym (ap (λ (y : CallId). y.n) x)))
      over d w e false q k m = o.made d w e k m
  booted_next r may = record { inside = λ s e k. stays r may s e k; made = λ d w e k m. made_stays r may d w e k m }

booted : (c : Config) (trace : Trace) → RowsAreLawful c trace → Booted trace
booted c [] rows = record { inside = λ s e k. absurd (none_some e k); made = λ d w e k m. absurd (none_some w k) }
booted c (r ∷ before) rows = booted_next c r.line before (booted c before rows.1) r.what rows.0

-- a table reads the list as the tree does
pub table_boot : (m : Members) (s : ℕ) → table_boot_in m.boot s ≡ boot_in m s
table_boot m zero = refl
table_boot m (suc place) = refl

-- a call of an epoch is of the boot that the members' list names
pub members_name_boots : (c : Config) (trace : List Line) → IsFollowed c trace → (e : EpochId) (d : CallId) (m : Members) → IsCallIn (entries trace) e d → members_of (entries trace) e ≡ Some m → boot_in m d.site ≡ d.boot
members_name_boots c trace h e d m k are = (let x : NamesBoot (entries trace) e d.site d.boot = (booted c (entries trace) (followed_rows c trace h)).made d k.accepted e k.named k.made_in in
    subst (λ (y : Members). boot_in y d.site ≡ d.boot) (some_same x.0 m (sym x.1 ∙ are)) x.2)

-- a site that is in an epoch has joined it
pub inside_joined : (c : Config) (trace : List Line) → IsFollowed c trace → (s : ℕ) (e : EpochId) → epoch_of (entries trace) s ≡ Some e → has_joined (entries trace) s e ≡ true
inside_joined c trace h s e k = ((booted c (entries trace) (followed_rows c trace h)).inside s e k).1
