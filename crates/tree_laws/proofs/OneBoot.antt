-- The calls of a site in one epoch are of one boot, since it joins an epoch once.
use Rattle.std.proofs.Common.{◌≡◌, ℕ, ◌==◌, Bool, true, false, cond, ◌&&◌, ◌||◌, List, [], ◌∷◌, Option, Some, None, refl, sym, ◌∙◌, ap, subst, ◌⊎◌, inl, inr}
use Rattle.the_run.proofs.of_plain_facts.Numbers.{equal}
use Rattle.the_run.proofs.of_plain_facts.Options.{none_some, some_same}
use Rattle.the_run.proofs.of_plain_facts.Tests.{true_false}
use Rattle.locus_ids.specs.declared.config.Config.{Config}
use Rattle.locus_ids.specs.declared.ids.CallId.{CallId}
use Rattle.locus_ids.specs.declared.ids.EpochId.{EpochId}
use Rattle.locus_ids.specs.declared.sites.Members.{Members}
use Rattle.trace_book.specs.Same.{same_call, same_epoch}
use Rattle.trace_book.specs.declared.call.Call.{Call}
use Rattle.trace_book.specs.declared.record.Record.{Record}
use Rattle.trace_book.specs.declared.record.Record.TheVariants as says
use Rattle.the_run.specs.of_role_steps.Views.{Told, Shown}
use Rattle.the_run.specs.Worlds.{Line}
use Rattle.lawful_trace.specs.of_tree_model.declared.accepted.Waiting.{Waiting}
use Rattle.lawful_trace.specs.of_tree_model.Calls.{call_named, accepted_as}
use Rattle.lawful_trace.specs.of_tree_model.Epochs.{boot_of, epoch_of, has_joined}
use Rattle.lawful_trace.specs.of_tree_model.Folds.{Trace}
use Rattle.lawful_trace.specs.CallRows.{next_call}
use Rattle.lawful_trace.specs.Lawful.{MayCome}
use Rattle.lawful_trace.specs.TreeRows.{IsCallIn}
use Rattle.tree_laws.specs.Printed.{entries, onto_entries}
use Rattle.tree_laws.specs.Following.{MayTell, IsFollowed}
use Rattle.tree_laws.proofs.Fresh.{numbered}
use Rattle.tree_laws.proofs.Names.{same_call_eq, same_epoch_own}

-- the call was made in the epoch
abbrev MadeIn : Trace → EpochId → CallId → Type 0
MadeIn before e d = (w : Waiting) × (call_named before d ≡ Some w) × (w.epoch ≡ Some e)

record Once (before : Trace) : Type 0 where
  joined : (s : ℕ) (e : EpochId) → epoch_of before s ≡ Some e → has_joined before s e ≡ true
  -- a site of which the epoch has a call has joined it, and isn't in it any more in a later boot
  made : (d : CallId) (e : EpochId) → MadeIn before e d → (has_joined before d.site e ≡ true) × ((d.boot ≡ boot_of before d.site) ⊎ (epoch_of before d.site ≡ Some e → ⊥))
  one : (d other : CallId) (e : EpochId) → MadeIn before e d → MadeIn before e other → d.site ≡ other.site → d.boot ≡ other.boot

-- ---- record by record ----

once_join : (n s : ℕ) (at : EpochId) (members : Members) (before : Trace) → has_joined before s at ≡ false → Once before → Once (record { line = n; what = says.Join s at members } ∷ before)
once_join n s at members before new o = record { joined = λ t e. joined t e (s == t) refl; made = made; one = o.one }
  where
    more : (t : ℕ) (e : EpochId) → has_joined before t e ≡ true → ((s == t) && same_epoch at e || has_joined before t e) ≡ true
    more t e h = over ((s == t) && same_epoch at e)
      where
        over : (b : Bool) → (b || has_joined before t e) ≡ true
        over true = refl
        over false = h

    joined : (t : ℕ) (e : EpochId) (b : Bool) → (s == t) ≡ b → cond b (Some at) (epoch_of before t) ≡ Some e → (b && same_epoch at e || has_joined before t e) ≡ true
    joined t e true k h = ap (λ (x : Bool). x || has_joined before t e) (subst (λ (x : EpochId). same_epoch at x ≡ true) (some_same at e h) (same_epoch_own at))
    joined t e false k h = o.joined t e h

    apart : (d : CallId) (e : EpochId) (b : Bool) → (s == d.site) ≡ b → has_joined before d.site e ≡ true → ((d.boot ≡ boot_of before d.site) ⊎ (epoch_of before d.site ≡ Some e → ⊥)) → (d.boot ≡ boot_of before d.site) ⊎ (cond b (Some at) (epoch_of before d.site) ≡ Some e → ⊥)
    apart d e true k h m = inr (λ is. true_false (sym h ∙ (ap (has_joined before d.site) (sym (some_same at e is)) ∙ subst (λ (t : ℕ). has_joined before t at ≡ false) (equal s d.site k) new)))
    apart d e false k h m = m

    made : (d : CallId) (e : EpochId) → MadeIn before e d → (((s == d.site) && same_epoch at e || has_joined before d.site e) ≡ true) × ((d.boot ≡ boot_of before d.site) ⊎ (cond (s == d.site) (Some at) (epoch_of before d.site) ≡ Some e → ⊥))
    made d e m = (let k : (has_joined before d.site e ≡ true) × ((d.boot ≡ boot_of before d.site) ⊎ (epoch_of before d.site ≡ Some e → ⊥)) = o.made d e m in (more d.site e k.0, apart d e (s == d.site) refl k.0 k.1))

-- a site that is in no epoch afterwards
out_made : (before : Trace) (d : CallId) (e : EpochId) (b : Bool) → ((d.boot ≡ boot_of before d.site) ⊎ (epoch_of before d.site ≡ Some e → ⊥)) → (d.boot ≡ boot_of before d.site) ⊎ (cond b None (epoch_of before d.site) ≡ Some e → ⊥)
out_made before d e true m = inr (λ k. none_some e k)
out_made before d e false m = m

out_joined : (before : Trace) (t : ℕ) (e : EpochId) (b : Bool) → Once before → cond b None (epoch_of before t) ≡ Some e → has_joined before t e ≡ true
out_joined before t e true o h = absurd (none_some e h)
out_joined before t e false o h = o.joined t e h

once_up : (n s boot : ℕ) (before : Trace) → Once before → Once (record { line = n; what = says.Up s boot } ∷ before)
once_up n s boot before o = record { joined = λ t e h. out_joined before t e (s == t) o h; made = λ d e m. ((o.made d e m).0, made d e (s == d.site) (o.made d e m).1); one = o.one }
  where
    made : (d : CallId) (e : EpochId) (b : Bool) → ((d.boot ≡ boot_of before d.site) ⊎ (epoch_of before d.site ≡ Some e → ⊥)) → (d.boot ≡ cond b boot (boot_of before d.site)) ⊎ (cond b None (epoch_of before d.site) ≡ Some e → ⊥)
    made d e true m = inr (λ k. none_some e k)
    made d e false m = m

once_accept : (n s process : ℕ) (new : CallId) (words : Call) (before : Trace) → new ≡ next_call before s → Once before → Once (record { line = n; what = says.Accept s process new words } ∷ before)
once_accept n s process new words before is o = record { joined = o.joined; made = made; one = one }
  where
    at_site : new.site ≡ s
    at_site = ap (λ (x : CallId). x.site) is

    at_boot : new.boot ≡ boot_of before s
    at_boot = ap (λ (x : CallId). x.boot) is

    -- the call is the new one, in the epoch that its site is in, or an old one
    split : (d : CallId) (e : EpochId) → MadeIn (record { line = n; what = says.Accept s process new words } ∷ before) e d → ((new ≡ d) × (epoch_of before s ≡ Some e)) ⊎ MadeIn before e d
    split d e m = over (same_call new d) (same_call_eq new d) m.1
      where
        over : (b : Bool) → (b ≡ true → new ≡ d) → cond b (Some (accepted_as before s process new words)) (call_named before d) ≡ Some m.0 → ((new ≡ d) × (epoch_of before s ≡ Some e)) ⊎ MadeIn before e d
        over true same k = inl (same refl, ap (λ (x : Waiting). x.epoch) (some_same (accepted_as before s process new words) m.0 k) ∙ m.2)
        over false same k = inr (m.0, k, m.2)

    made : (d : CallId) (e : EpochId) → MadeIn (record { line = n; what = says.Accept s process new words } ∷ before) e d → (has_joined before d.site e ≡ true) × ((d.boot ≡ boot_of before d.site) ⊎ (epoch_of before d.site ≡ Some e → ⊥))
    made d e m = over (split d e m)
      where
        over : ((new ≡ d) × (epoch_of before s ≡ Some e)) ⊎ MadeIn before e d → (has_joined before d.site e ≡ true) × ((d.boot ≡ boot_of before d.site) ⊎ (epoch_of before d.site ≡ Some e → ⊥))
        over (inl k) = (subst (λ (x : CallId). has_joined before x.site e ≡ true) k.0 (subst (λ (t : ℕ). has_joined before t e ≡ true) (sym at_site) (o.joined s e k.1)), inl (subst (λ (x : CallId). x.boot ≡ boot_of before x.site) k.0 (at_boot ∙ ap (boot_of before) (sym at_site))))
        over (inr k) = o.made d e k

    -- an old call of the epoch that the site is in is of its boot
    old_boot : (d : CallId) (e : EpochId) → epoch_of before s ≡ Some e → MadeIn before e d → d.site ≡ s → d.boot ≡ boot_of before s
    old_boot d e inside m same = over (o.made d e m).1
      where
        over : (d.boot ≡ boot_of before d.site) ⊎ (epoch_of before d.site ≡ Some e → ⊥) → d.boot ≡ boot_of before s
        over (inl k) = k ∙ ap (boot_of before) same
        over (inr k) = absurd (k (ap (epoch_of before) same ∙ inside))

    one : (d other : CallId) (e : EpochId) → MadeIn (record { line = n; what = says.Accept s process new words } ∷ before) e d → MadeIn (record { line = n; what = says.Accept s process new words } ∷ before) e other → d.site ≡ other.site → d.boot ≡ other.boot
    one d other e m k same = over (split d e m) (split other e k)
      where
        over : ((new ≡ d) × (epoch_of before s ≡ Some e)) ⊎ MadeIn before e d → ((new ≡ other) × (epoch_of before s ≡ Some e)) ⊎ MadeIn before e other → d.boot ≡ other.boot
        over (inl a) (inl b) = ap (λ (x : CallId). x.boot) (sym a.0 ∙ b.0)
        over (inl a) (inr b) = ap (λ (x : CallId). x.boot) (sym a.0) ∙ (at_boot ∙ sym (old_boot other e a.1 b (sym same ∙ (ap (λ (x : CallId). x.site) (sym a.0) ∙ at_site))))
        over (inr a) (inl b) = old_boot d e b.1 a (same ∙ (ap (λ (x : CallId). x.site) (sym b.0) ∙ at_site)) ∙ (sym at_boot ∙ ap (λ (x : CallId). x.boot) b.0)
        over (inr a) (inr b) = o.one d other e a b same

once_record : (c : Config) (n : ℕ) (r : Record) (before : Trace) → MayCome c before r → Once before → Once (record { line = n; what = r } ∷ before)
once_record c n (says.Join s at members) before may o = once_join n s at members before may.new o
once_record c n (says.Up s boot) before may o = once_up n s boot before o
once_record c n (says.Accept s process new words) before may o = once_accept n s process new words before (numbered c before s process new words may) o
once_record c n (says.Leave s at) before may o = record { joined = λ t e h. out_joined before t e (s == t) o h; made = λ d e m. ((o.made d e m).0, out_made before d e (s == d.site) (o.made d e m).1); one = o.one }
once_record c n (says.Stopped s cause) before may o = record { joined = λ t e h. out_joined before t e (s == t) o h; made = λ d e m. ((o.made d e m).0, out_made before d e (s == d.site) (o.made d e m).1); one = o.one }
once_record c n _ before may o = record { joined = o.joined; made = o.made; one = o.one }

once_told : (c : Config) (n : ℕ) (x : Told) (older : List Line) → MayTell c older x → Once (entries older) → Once (onto_entries n x (entries older))
once_told c n (Shown r) older may o = once_record c n r (entries older) may.row o
once_told c n _ older may o = o

once : (c : Config) (trace : List Line) → IsFollowed c trace → Once (entries trace)
once c [] h = record { joined = λ s e k. absurd (none_some e k); made = λ d e m. absurd (none_some m.0 m.1); one = λ d other e m k same. absurd (none_some m.0 m.1) }
once c (x ∷ older) h = once_told c x.number x.told older h.0 (once c older h.1)

-- calls of one site in one epoch are of one boot
pub one_boot : (c : Config) (trace : List Line) (e : EpochId) (d other : CallId) → IsFollowed c trace → IsCallIn (entries trace) e d → IsCallIn (entries trace) e other → d.site ≡ other.site → d.boot ≡ other.boot
one_boot c trace e d other h a b same = (once c trace h).one d other e (a.accepted, a.named, a.made_in) (b.accepted, b.named, b.made_in) same

-- a site has joined the epoch in which a call of it was made
pub joined_where_made : (c : Config) (trace : List Line) (d : CallId) (e : EpochId) → IsFollowed c trace → IsCallIn (entries trace) e d → has_joined (entries trace) d.site e ≡ true
joined_where_made c trace d e h k = ((once c trace h).made d e (k.accepted, k.named, k.made_in)).0

-- a call of the epoch that its site is in is of the boot in which the site runs
pub boot_where_inside : (c : Config) (trace : List Line) (d : CallId) (e : EpochId) → IsFollowed c trace → IsCallIn (entries trace) e d → epoch_of (entries trace) d.site ≡ Some e → d.boot ≡ boot_of (entries trace) d.site
boot_where_inside c trace d e h k inside = over ((once c trace h).made d e (k.accepted, k.named, k.made_in)).1
  where
    over : (d.boot ≡ boot_of (entries trace) d.site) ⊎ (epoch_of (entries trace) d.site ≡ Some e → ⊥) → d.boot ≡ boot_of (entries trace) d.site
    over (inl same) = same
    over (inr out) = absurd (out inside)
