-- An instance is begun once, at one site and on one file; and what names a call was told of one that was accepted.
use Rattle.std.proofs.Common.{◌≡◌, ℕ, List, [], ◌∷◌, Option, sym, ◌∙◌, ap, subst, inl, inr}
use Rattle.locus_ids.specs.declared.config.Config.{Config}
use Rattle.locus_ids.specs.declared.ids.CallId.{CallId}
use Rattle.locus_ids.specs.declared.ids.EpochId.{EpochId}
use Rattle.locus_ids.specs.declared.ids.FileId.{FileId}
use Rattle.locus_ids.specs.declared.ids.Mode.{Mode}
use Rattle.locus_ids.specs.declared.ids.Serial.{Serial}
use Rattle.locus_ids.specs.declared.ids.Stamp.{Stamp}
use Rattle.trace_book.specs.declared.record.Record.TheVariants as says
use Rattle.role_steps.specs.Views.{Told, Shown, Begins}
use Rattle.the_run.specs.Worlds.{Line}
use Rattle.lawful_trace.specs.TreeRows.{IsCallIn}
use Rattle.tree_laws.specs.Printed.{entries}
use Rattle.tree_laws.specs.Following.{MayTell, IsFollowed}
use Rattle.tree_laws.specs.Past.{Printed, GrantRecord, NamingRecord, WasGranted, WasNamed, WasBegun, BeginsIt}
use Rattle.tree_laws.proofs.Scripts.{in_stays}

-- what is begun now wasn't begun before
new_begun : (c : Config) (older : List Line) (e : EpochId) (i : Serial) (s r : ℕ) (f g : FileId) (z : Told) → MayTell c older z → BeginsIt s e i f older z → WasBegun older r e i g → ⊥
new_begun c older e i s r f g (Begins site at inst file) may p b = may.new r g (subst (λ (j : Serial). WasBegun older r at j g) (sym p.serial_is) (subst (λ (y : EpochId). WasBegun older r y i g) (sym p.epoch_is) b))
new_begun c older e i s r f g _ may p b = absurd p

pub begun_one : (c : Config) (trace : List Line) → IsFollowed c trace → (e : EpochId) (i : Serial) (s r : ℕ) (f g : FileId) → WasBegun trace s e i f → WasBegun trace r e i g → (s ≡ r) × (f ≡ g)
begun_one c [] h e i s r f g a b = absurd a
begun_one c (x ∷ older) h e i s r f g (inr a) (inr b) = begun_one c older h.1 e i s r f g a b
begun_one c (x ∷ older) h e i s r f g (inl a) (inl b) = both x.told a b
  where
    both : (z : Told) → BeginsIt s e i f older z → BeginsIt r e i g older z → (s ≡ r) × (f ≡ g)
    both (Begins site at inst file) p q = (sym p.site_is ∙ q.site_is, sym p.file_is ∙ q.file_is)
    both _ p q = absurd p
begun_one c (x ∷ older) h e i s r f g (inl a) (inr b) = absurd (new_begun c older e i s r f g x.told h.0 a b)
begun_one c (x ∷ older) h e i s r f g (inr a) (inl b) = absurd (new_begun c older e i r s g f x.told h.0 b a)

-- who names an instance has named it
pub granted_named : (trace : List Line) (e : EpochId) (d : CallId) (request : ℕ) (i : Serial) (m : Mode) (f : FileId) (stamp : Option Stamp) (ss : ℕ) → WasGranted trace e d request i m f stamp ss → WasNamed trace e i
granted_named [] e d request i m f stamp ss g = absurd g
granted_named (x ∷ older) e d request i m f stamp ss (inr g) = inr (granted_named older e d request i m f stamp ss g)
granted_named (x ∷ older) e d request i m f stamp ss (inl g) = inl (names x.told g)
  where
    names : (z : Told) → Printed (GrantRecord e d request i m f stamp ss) older z → Printed (NamingRecord e i) older z
    names (Shown (says.Grant at call number inst mode file on place)) p = record { epoch_is = p.epoch_is; serial_is = p.serial_is }
    names _ p = absurd p

-- who was granted something was accepted in the epoch
pub granted_in : (c : Config) (trace : List Line) → IsFollowed c trace → (e : EpochId) (d : CallId) (request : ℕ) (i : Serial) (m : Mode) (f : FileId) (stamp : Option Stamp) (ss : ℕ) → WasGranted trace e d request i m f stamp ss → IsCallIn (entries trace) e d
granted_in c [] h e d request i m f stamp ss g = absurd g
granted_in c (x ∷ older) h e d request i m f stamp ss (inr g) = in_stays c x.number x.told older e d h.1 h.0 (granted_in c older h.1 e d request i m f stamp ss g)
granted_in c (x ∷ older) h e d request i m f stamp ss (inl g) = in_stays c x.number x.told older e d h.1 h.0 (now x.told h.0 g)
  where
    now : (z : Told) → MayTell c older z → Printed (GrantRecord e d request i m f stamp ss) older z → IsCallIn (entries older) e d
    now (Shown (says.Grant at call number inst mode file on place)) may p = subst (λ (y : CallId). IsCallIn (entries older) e y) p.call_is (subst (λ (y : EpochId). IsCallIn (entries older) y call) p.epoch_is may.row.opens.step)
    now _ may p = absurd p

-- what was named was named of a call that was accepted in the epoch, of the user's site
pub named_of : (c : Config) (trace : List Line) → IsFollowed c trace → (e : EpochId) (i : Serial) → WasNamed trace e i → (d : CallId) × (i.us ≡ d.site) × IsCallIn (entries trace) e d
named_of c [] h e i named = absurd named
named_of c (x ∷ older) h e i (inr named) = (let k : (d : CallId) × (i.us ≡ d.site) × IsCallIn (entries older) e d = named_of c older h.1 e i named in (k.0, k.1, in_stays c x.number x.told older e k.0 h.1 h.0 k.2))
named_of c (x ∷ older) h e i (inl named) = (let k : (d : CallId) × (i.us ≡ d.site) × IsCallIn (entries older) e d = now x.told h.0 named in (k.0, k.1, in_stays c x.number x.told older e k.0 h.1 h.0 k.2))
  where
    now : (z : Told) → MayTell c older z → Printed (NamingRecord e i) older z → (d : CallId) × (i.us ≡ d.site) × IsCallIn (entries older) e d
    now (Shown (says.Grant at call number inst mode file on place)) may p = (call, ap (λ (j : Serial). j.us) (sym p.serial_is) ∙ may.in_time.opens.user_is, subst (λ (y : EpochId). IsCallIn (entries older) y call) p.epoch_is may.row.opens.step)
    now (Shown (says.Refuse at call number inst mode file why)) may p = (call, ap (λ (j : Serial). j.us) (sym p.serial_is) ∙ may.in_time.opens.user_is, subst (λ (y : EpochId). IsCallIn (entries older) y call) p.epoch_is may.row.opens.step)
    now _ may p = absurd p
