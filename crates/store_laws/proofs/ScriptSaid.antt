-- Opens name files that have numbers, and resolutions are as the words of their calls say.
use Rattle.std.proofs.Common.{◌≡◌, ℕ, ◌≤◌, List, Some, sym, ◌∙◌, ap, subst, arith, inl, inr}
use Rattle.role_steps.proofs.of_plain_facts.Options.{some_same}
use Rattle.locus_ids.specs.declared.config.Config.{Config}
use Rattle.locus_ids.specs.declared.ids.CallId.{CallId}
use Rattle.locus_ids.specs.declared.ids.EpochId.{EpochId}
use Rattle.locus_ids.specs.declared.ids.FileId.{FileId}
use Rattle.locus_ids.specs.declared.ids.Kind.{Kind}
use Rattle.locus_ids.specs.declared.sites.Sites.{Sites}
use Rattle.trace_book.specs.declared.call.OpenMode.{OpenMode}
use Rattle.trace_book.specs.declared.call.OpenMode.TheVariants as opens
use Rattle.call_rules.specs.declared.want.Want.{Want}
use Rattle.call_rules.specs.declared.want.Want.TheVariants as want
use Rattle.wire_messages.specs.declared.body.Opening.{Opening}
use Rattle.wire_messages.specs.declared.body.Opening.TheVariants as how
use Rattle.role_steps.specs.Requests.{opening_of}
use Rattle.the_run.specs.Worlds.{Line}
use Rattle.tree_model.specs.declared.accepted.Waiting.{Waiting}
use Rattle.tree_model.specs.Calls.{call_named}
use Rattle.tree_model.specs.Opening.{site_named}
use Rattle.tree_laws.specs.Calls.{is_request}
use Rattle.tree_laws.specs.Following.{IsFollowed}
use Rattle.tree_laws.specs.Instances.{AsksOpen, IsOpening}
use Rattle.tree_laws.specs.Printed.{entries}
use Rattle.tree_laws.specs.Syncs.Opening.{IsPlainOpening}
use Rattle.store_laws.proofs.ScriptFitting.{IsSound, OpensAs}
use Rattle.store_laws.proofs.ScriptFitted.{asked_sound}
use Rattle.store_laws.proofs.ScriptNumbered.{mend_numbered, read_numbered}
use Rattle.tree_laws.specs.Serials.{asked_now}

-- what the call asks it asks rightly
sound_open : (c : Config) (t : List Line) (e : EpochId) (d : CallId) (request serial : ℕ) (f : FileId) (q : Opening) (a : AsksOpen c t e d request serial f q) → IsFollowed c t → IsSound a.inside.accepted.words (Some 0) a.wanted
sound_open c t e d request serial f q a h = subst (IsSound a.inside.accepted.words (Some 0)) a.asks.asked (asked_sound c t d a.inside.accepted h a.inside.named (ap is_request a.asks.asked ∙ a.asks.request))

zero : (n m : ℕ) → n ≡ m → n ≡ 0 → 1 ≤ m → ⊥
zero n m same e l = omega (arith, same, e, l)

-- a file that is opened has a number
pub open_numbered : (c : Config) (t : List Line) (e : EpochId) (d : CallId) (request serial : ℕ) (f : FileId) (q : Opening) → IsFollowed c t → AsksOpen c t e d request serial f q → IsPlainOpening q → f.ino ≡ 0 → ⊥
open_numbered c t e d request serial f q h a plain none = over a.wanted a.asks.asked a.opening_is (sound_open c t e d request serial f q a h)
  where
    over : (w : Want) → asked_now c t d ≡ w → IsOpening c w f q → IsSound a.inside.accepted.words (Some 0) w → ⊥
    over (want.Open file m) asked is (inl s) = zero f.ino file.ino (ap (λ (y : FileId). y.ino) is.0) none s.0
    over (want.Open file m) asked is (inr s) = zero f.ino file.ino (ap (λ (y : FileId). y.ino) is.0) none (read_numbered c t d a.inside.accepted file m h a.inside.named asked s.0)
    over (want.OpenToMend file) asked is s = zero f.ino file.ino (ap (λ (y : FileId). y.ino) is.0) none (mend_numbered c t d a.inside.accepted file h a.inside.named s)
    over (want.Make group kind sites) asked is s = subst IsPlainOpening is.2 plain
    over (want.Look file what) asked is s = is
    over (want.Do i o) asked is s = is
    over (want.Close i) asked is s = is
    over (want.Give r) asked is s = is
    over want.Never asked is s = is

-- a resolution is asked as the words of its call say
pub resolution_said : (c : Config) (t : List Line) (e : EpochId) (d : CallId) (request serial : ℕ) (f : FileId) (site : ℕ) → IsFollowed c t → AsksOpen c t e d request serial f (how.Resolve site) → (w : Waiting) → call_named (entries t) d ≡ Some w → site_named (Some w.words) ≡ Some site
resolution_said c t e d request serial f site h a w named = subst (λ (v : Waiting). site_named (Some v.words) ≡ Some site) (some_same a.inside.accepted w (sym a.inside.named ∙ named)) (over a.wanted a.opening_is (sound_open c t e d request serial f (how.Resolve site) a h))
  where
    resolve_site : (s r : ℕ) → how.Resolve s ≡ how.Resolve r → s ≡ r
    resolve_site s r e = cc

    not_read : how.Resolve site ≡ how.Read → ⊥
    not_read e = cc

    not_write : how.Resolve site ≡ how.Write → ⊥
    not_write e = cc

    not_mend : how.Resolve site ≡ how.Mend → ⊥
    not_mend e = cc

    not_make : (set : Sites) (k : Kind) → how.Resolve site ≡ how.Make set k → ⊥
    not_make set k e = cc

    opened : (m : OpenMode) → how.Resolve site ≡ opening_of m → OpensAs a.inside.accepted.words m → site_named (Some a.inside.accepted.words) ≡ Some site
    opened opens.Read is s = absurd (not_read is)
    opened opens.Write is s = absurd (not_write is)
    opened (opens.Resolve r) is s = s ∙ ap Some (sym (resolve_site site r is))
    opened opens.Steady is s = absurd (not_read is)

    over : (v : Want) → IsOpening c v f (how.Resolve site) → IsSound a.inside.accepted.words (Some 0) v → site_named (Some a.inside.accepted.words) ≡ Some site
    over (want.Open file m) is (inl s) = opened m is.1 s.1
    over (want.Open file m) is (inr s) = absurd (not_read (is.1 ∙ ap opening_of s.1))
    over (want.OpenToMend file) is s = absurd (not_mend is.1)
    over (want.Make group kind sites) is s = absurd (not_make _ kind is.2)
    over (want.Look file what) is s = absurd is
    over (want.Do i o) is s = absurd is
    over (want.Close i) is s = absurd is
    over (want.Give r) is s = absurd is
    over want.Never is s = absurd is
