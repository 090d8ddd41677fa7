-- The parts of every handler, for the ids that are known.
use Rattle.std.proofs.Common.{◌≡◌, ℕ, ◌⊎◌, true, List, [], ◌∷◌, Option, Some, None, refl, sym, ◌∙◌, subst, inl, inr}
use Rattle.locus_ids.specs.declared.ids.EpochId.{EpochId}
use Rattle.wire_messages.specs.declared.packet.Packet.{Packet}
use Rattle.wire_messages.specs.declared.body.Body.{Body}
use Rattle.wire_messages.specs.declared.body.Body.TheVariants as body
use Rattle.the_run.specs.of_role_steps.Own.{Every}
use Rattle.the_run.specs.of_role_steps.Views.{SiteView, Outcome, quiet, sends, joined_to, and_then}
use Rattle.the_run.specs.of_role_steps.declared.rounds.InEpoch.{InEpoch}
use Rattle.the_run.specs.of_role_steps.declared.rounds.Round.{Round}
use Rattle.the_run.proofs.of_role_steps.Sending.{every_append}
use Rattle.the_run.specs.Joins.{IsAtMost}
use Rattle.the_run.proofs.Boots.{every_weaker}
use Rattle.the_run.proofs.Joining.{same_at_most}
use Rattle.run_laws.specs.Naming.{IsInEpoch, Inner}
use Rattle.run_laws.specs.Epochs.Forming.{FormsNone, Formless, TableFormless, FormlessSite}
use Rattle.run_laws.specs.Epochs.Known.{IsOwnRound, FormFact}
use Rattle.run_laws.proofs.Epochs.Boots.{at_most_trans}

-- ---- what is known within an event of a site ----

abbrev pub Ids : Type 1
Ids = EpochId → Type 0

-- known before, or the site's own in this boot up to the one that it has promised
abbrev pub Now : Ids → ℕ → ℕ → EpochId → EpochId → Type 0
Now K me boot top id = K id ⊎ ((id.site ≡ me) × (id.boot ≡ boot) × IsAtMost id top)

abbrev pub SentFact : Ids → (ℕ → ℕ) → ℕ → ℕ → EpochId → Packet → Type 0
SentFact K boots me boot top p = Now K me boot top p.epoch × FormFact boots p p.body

pub record Site (K : Ids) (boots : ℕ → ℕ) (me boot : ℕ) (v : SiteView) : Type 0 where
  pub boot_is : v.boot ≡ boot
  pub known : Now K me boot v.promised v.promised
  pub round : (r : Round) → v.round ≡ Some r → IsOwnRound boots me v r
  pub inside : (e : InEpoch) → v.epoch ≡ Some e → (e.id ≡ v.promised) × (v.installed ≡ true)
  pub tables : Every TableFormless v.tables

-- an outcome of a site that had promised this id
pub record Fine (K : Ids) (boots : ℕ → ℕ) (me boot : ℕ) (low : EpochId) (o : Outcome SiteView) : Type 0 where
  pub view : Site K boots me boot o.view
  pub rises : IsAtMost low o.view.promised
  pub sent : Every (SentFact K boots me boot o.view.promised) o.sent

pub now_higher : (K : Ids) (me boot : ℕ) (low top id : EpochId) → IsAtMost low top → Now K me boot low id → Now K me boot top id
now_higher K me boot low top id h (inl k) = inl k
now_higher K me boot low top id h (inr k) = inr (k.0, k.1, at_most_trans id low top k.2 h)

pub sent_higher : (K : Ids) (boots : ℕ → ℕ) (me boot : ℕ) (low top : EpochId) (ps : List Packet) → IsAtMost low top → Every (SentFact K boots me boot low) ps → Every (SentFact K boots me boot top) ps
sent_higher K boots me boot low top ps h e = every_weaker (SentFact K boots me boot low) (SentFact K boots me boot top) ps (λ p k. (now_higher K me boot low top p.epoch h k.0, k.1)) e

-- ---- outcomes ----

pub joined_fine : (K : Ids) (boots : ℕ → ℕ) (me boot : ℕ) (low : EpochId) (o p : Outcome SiteView) → Fine K boots me boot low o → Fine K boots me boot o.view.promised p → Fine K boots me boot low (joined_to o p)
joined_fine K boots me boot low o p h g = record {
  view = g.view;
  rises = at_most_trans low o.view.promised p.view.promised h.rises g.rises;
  sent = every_append (SentFact K boots me boot p.view.promised) o.sent p.sent (sent_higher K boots me boot o.view.promised p.view.promised o.sent g.rises h.sent) g.sent;
}

pub then_fine : (K : Ids) (boots : ℕ → ℕ) (me boot : ℕ) (low : EpochId) (o : Outcome SiteView) (f : SiteView → Outcome SiteView) → Fine K boots me boot low o → (Site K boots me boot o.view → Fine K boots me boot o.view.promised (f o.view)) → Fine K boots me boot low (and_then o f)
then_fine K boots me boot low o f h g = joined_fine K boots me boot low o (f o.view) h (g h.view)

pub sends_fine : (K : Ids) (boots : ℕ → ℕ) (me boot : ℕ) (ps : List Packet) (v : SiteView) → Site K boots me boot v → Every (SentFact K boots me boot v.promised) ps → Fine K boots me boot v.promised (sends ps v)
sends_fine K boots me boot ps v h e = record { view = h; rises = same_at_most v.promised; sent = e }

pub quiet_fine : (K : Ids) (boots : ℕ → ℕ) (me boot : ℕ) (v : SiteView) → Site K boots me boot v → Fine K boots me boot v.promised (quiet v)
quiet_fine K boots me boot v h = sends_fine K boots me boot [] v h tt

-- ---- what a site does inside its epoch ----

pub every_both : {A : Type 0} (P Q R : A → Type 0) (xs : List A) → ((x : A) → P x → Q x → R x) → Every P xs → Every Q xs → Every R xs
every_both P Q R [] f h g = tt
every_both P Q R (x ∷ xs) f h g = (f x h.0 g.0, every_both P Q R xs f h.1 g.1)

pub forms_none : (boots : ℕ → ℕ) (p : Packet) (b : Body) → FormsNone b → FormFact boots p b
forms_none boots p body.Poll h = absurd h
forms_none boots p (body.Refuse theirs) h = absurd h
forms_none boots p _ h = tt

in_epoch : (K : Ids) (boots : ℕ → ℕ) (me boot : ℕ) (v : SiteView) (o : Option InEpoch) → v.epoch ≡ o → Site K boots me boot v → (p : Packet) → IsInEpoch o p → Formless p → SentFact K boots me boot v.promised p
in_epoch K boots me boot v None here h p k f = absurd k
in_epoch K boots me boot v (Some e) here h p k f = (subst (λ (id : EpochId). Now K me boot v.promised id) (sym (h.inside e here).0 ∙ sym k) h.known, forms_none boots p p.body f)

pub inner_sent : (K : Ids) (boots : ℕ → ℕ) (me boot : ℕ) (v : SiteView) (ps : List Packet) → Site K boots me boot v → Every (IsInEpoch v.epoch) ps → Every Formless ps → Every (SentFact K boots me boot v.promised) ps
inner_sent K boots me boot v ps h e f = every_both (IsInEpoch v.epoch) Formless (SentFact K boots me boot v.promised) ps (in_epoch K boots me boot v v.epoch refl h) e f

pub inner_site : (K : Ids) (boots : ℕ → ℕ) (me boot : ℕ) (v : SiteView) (o : Outcome SiteView) → FormlessSite v o → Inner v o → Site K boots me boot v → Site K boots me boot o.view
inner_site K boots me boot v o f i h = record {
  boot_is = f.boot ∙ h.boot_is;
  known = subst (λ (id : EpochId). Now K me boot id id) (sym f.promised) h.known;
  round = λ r e. (let k : IsOwnRound boots me v r = h.round r (sym f.round ∙ e) in record { promised = k.promised ∙ sym f.promised; site = k.site; boot = k.boot ∙ sym f.boot; joins_later = i.installed ∙ k.joins_later; others = k.others; had = k.had });
  inside = λ e here. (let k : (e.id ≡ v.promised) × (v.installed ≡ true) = h.inside e (sym f.epoch ∙ here) in (k.0 ∙ sym f.promised, i.installed ∙ k.1));
  tables = f.tables;
}

pub inner_fine : (K : Ids) (boots : ℕ → ℕ) (me boot : ℕ) (v : SiteView) (o : Outcome SiteView) → FormlessSite v o → Inner v o → Site K boots me boot v → Fine K boots me boot v.promised o
inner_fine K boots me boot v o f i h = record {
  view = inner_site K boots me boot v o f i h;
  rises = subst (λ (id : EpochId). IsAtMost v.promised id) (sym f.promised) (same_at_most v.promised);
  sent = subst (λ (id : EpochId). Every (SentFact K boots me boot id) o.sent) (sym f.promised) (inner_sent K boots me boot v o.sent h i.sent f.still.0);
}
