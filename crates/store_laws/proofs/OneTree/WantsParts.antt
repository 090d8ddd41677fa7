-- One part of an event after another: what a site wants it wants still, and each want that it sends is so of what it has then.
use Rattle.std.proofs.Common.{◌≡◌, ℕ, Bool, true, false, cond, List, [], ◌∷◌, ◌++◌, Option, Some, None, refl, sym, ◌∙◌, ap, subst, ◌⊎◌, inl, inr, ◌||◌, ◌&&◌, ◌==◌}
use Rattle.role_steps.proofs.of_plain_facts.Options.{none_some, some_same}
use Rattle.role_steps.proofs.of_plain_facts.Tests.{true_false}
use Rattle.locus_ids.specs.declared.config.Config.{Config}
use Rattle.locus_ids.specs.declared.ids.EpochId.{EpochId}
use Rattle.locus_ids.specs.declared.ids.FileId.{FileId}
use Rattle.locus_ids.specs.declared.ids.Stamp.{Stamp}
use Rattle.locus_ids.specs.declared.sites.Members.{Members}
use Rattle.trace_book.specs.declared.record.Record.{Record}
use Rattle.trace_book.specs.declared.record.Record.TheVariants as says
use Rattle.wire_messages.specs.declared.body.Body.{Body}
use Rattle.wire_messages.specs.declared.body.Body.TheVariants as body
use Rattle.wire_messages.specs.declared.packet.Packet.{Packet}
use Rattle.role_steps.specs.Own.{Every}
use Rattle.role_steps.specs.Pulling.{pull_key}
use Rattle.role_steps.specs.Views.{SiteView, Told, Shown, Outcome}
use Rattle.role_steps.specs.declared.pulls.Pull.{Pull}
use Rattle.role_steps.specs.declared.rounds.InEpoch.{InEpoch}
use Rattle.role_steps.proofs.Sending.{every_append}
use Rattle.the_run.specs.Kept.{Among}
use Rattle.the_run.specs.Worlds.{Line, told_onto}
use Rattle.tree_model.specs.Epochs.{has_joined}
use Rattle.tree_laws.specs.Deltas.{DifferIn, WantsOver}
use Rattle.tree_laws.specs.Doing.{AllTold, IsAdopted, IsAdoptedRecord}
use Rattle.tree_laws.specs.Following.{MayTell}
use Rattle.tree_laws.specs.Instances.{Stands}
use Rattle.tree_laws.specs.Packets.{BodyFact, PacketFact}
use Rattle.tree_laws.specs.Printed.{entries}
use Rattle.tree_laws.specs.Stores.{Ascends}
use Rattle.tree_laws.proofs.Carried.{joined_stays}
use Rattle.tree_laws.proofs.Histories.{stands_more}
use Rattle.tree_laws.proofs.Versions.{versions_stay}
use Rattle.store_laws.proofs.Differing.{differ_stays}
use Rattle.store_laws.specs.OneTree.Places.{AllAt}
use Rattle.store_laws.specs.OneTree.Rest.{AllRest, Past, more}
use Rattle.store_laws.specs.OneTree.Wants.{IsPlain, WantsAt}
use Rattle.store_laws.proofs.OneTree.Composing.{onto_append, past_more}
use Rattle.store_laws.proofs.OneTree.Framing.{every_at}
use Rattle.store_laws.proofs.OneTree.Staying.{stays}
use Rattle.store_laws.proofs.OneTree.WantsLines.{wants_lines}
use Rattle.store_laws.proofs.OneTree.WantsSites.{IsKeptRecord, IsPlainPart, NoAdoption, PlainSent}

-- ---- over the lines of an event ----

pub stands_onto : (c : Config) (n : ℕ) (told : List Told) (trace : List Line) (f : FileId) (s : Stamp) → Stands c trace f s → Stands c (told_onto n told trace) f s
stands_onto c n [] trace f s k = k
stands_onto c n (x ∷ xs) trace f s k = stands_onto c n xs (more n x trace) f s (stands_more c n x trace f s k)

pub joined_onto : (n : ℕ) (told : List Told) (trace : List Line) (site : ℕ) (e : EpochId) → has_joined (entries trace) site e ≡ true → has_joined (entries (told_onto n told trace)) site e ≡ true
joined_onto n [] trace site e k = k
joined_onto n (x ∷ xs) trace site e k = joined_onto n xs (more n x trace) site e (joined_stays n x trace site e k)

pub differ_onto : (c : Config) (n : ℕ) (told : List Told) (trace : List Line) → Past c trace → AllTold c n trace told → AllRest c n trace told → (f : FileId) (a b : Stamp) (pages : List ℕ) → DifferIn c trace f a b pages → DifferIn c (told_onto n told trace) f a b pages
differ_onto c n [] trace past may rest f a b pages k = k
differ_onto c n (x ∷ xs) trace past may rest f a b pages k = differ_onto c n xs (more n x trace) (past_more c n x trace past may.0 rest.0) may.1 rest.1 f a b pages
    (differ_stays c trace (more n x trace) (versions_stay c n x trace past.followed may.0 ((stays c).all n x trace (record { past = past; may = may.0; rest = rest.0 })).fresh ((stays c).all n x trace (record { past = past; may = may.0; rest = rest.0 })).order) f a b pages k)

-- an epoch that a site has joined isn't joined again
pub joined_never : (c : Config) (n : ℕ) (told : List Told) (trace : List Line) (me : ℕ) (id : EpochId) (members : Members) → AllTold c n trace told → Among (Shown (says.Join me id members)) told → has_joined (entries trace) me id ≡ true → ⊥
joined_never c n [] trace me id members may m k = m
joined_never c n (x ∷ xs) trace me id members may (inr m) k = joined_never c n xs (more n x trace) me id members may.1 m (joined_stays n x trace me id k)
joined_never c n (x ∷ xs) trace me id members may (inl e) k = true_false (sym k ∙ (subst (λ (y : Told). MayTell c trace y) (sym e) may.0).row.new)

no_adopted : (me : ℕ) (r : Record) → IsKeptRecord r → IsAdoptedRecord me r → ⊥
no_adopted me (says.Adopt file site stamp) h k = h
no_adopted me _ h k = k

no_adoption : (me : ℕ) (x : Told) → NoAdoption x → IsAdopted me x → ⊥
no_adoption me (Shown r) h k = no_adopted me r h k
no_adoption me _ h k = k

-- ---- what is sent ----

-- the delta answers the want that has come
abbrev pub AnswersSo : Config → List Line → Option Packet → Packet → FileId → Stamp → List ℕ → Type 0
AnswersSo c trace None p file wanted pages = ⊥
AnswersSo c trace (Some q) p file wanted pages = (own : Stamp) × (q.body ≡ body.Want file wanted own) × (p.to ≡ q.from) × (p.epoch ≡ q.epoch) × DifferIn c trace file own wanted pages

-- a want is of what the site has, and a delta answers one
abbrev pub BodySo : Config → List Line → ℕ → SiteView → Option Packet → Packet → Body → Type 0
BodySo c trace me v came p (body.Want file wanted own) = (p.from ≡ me) × WantsAt c trace me v p.epoch file wanted own
BodySo c trace me v came p (body.Delta file wanted pages) = AnswersSo c trace came p file wanted pages
BodySo c trace me v came p _ = Unit {0}

abbrev pub SentSo : Config → List Line → ℕ → SiteView → Option Packet → Packet → Type 0
SentSo c trace me v came p = BodySo c trace me v came p p.body

plain_body : (c : Config) (trace : List Line) (me : ℕ) (v : SiteView) (came : Option Packet) (p : Packet) (b : Body) → IsPlain b → BodySo c trace me v came p b
plain_body c trace me v came p (body.Want file wanted own) h = absurd h
plain_body c trace me v came p (body.Delta file wanted pages) h = absurd h
plain_body c trace me v came p _ h = tt

pub plain_so : (c : Config) (trace : List Line) (me : ℕ) (v : SiteView) (came : Option Packet) (ps : List Packet) → Every PlainSent ps → Every (SentSo c trace me v came) ps
plain_so c trace me v came [] h = tt
plain_so c trace me v came (p ∷ ps) h = (plain_body c trace me v came p p.body h.0, plain_so c trace me v came ps h.1)

-- ---- a part of an event ----

pub record PartWants (c : Config) (n : ℕ) (trace : List Line) (me : ℕ) (v view : SiteView) (told : List Told) (came : Option Packet) (sent : List Packet) : Type 0 where
  pub stays : (e : EpochId) (f : FileId) (wanted own : Stamp) → Stands c trace f wanted → has_joined (entries trace) me e ≡ true → WantsAt c trace me v e f wanted own → WantsAt c (told_onto n told trace) me view e f wanted own
  pub rises : Ascends pull_key v.pulls → Ascends pull_key view.pulls
  pub asks : Every (SentSo c (told_onto n told trace) me view came) sent

-- a part that leaves pulls, or ends or begins an epoch
pub plain_wants : (c : Config) (n : ℕ) (trace : List Line) (me : ℕ) (v : SiteView) (o : Outcome SiteView) (came : Option Packet) → Past c trace → AllTold c n trace o.told → AllRest c n trace o.told → IsPlainPart me v o → PartWants c n trace me v o.view o.told came o.sent
plain_wants c n trace me v o came past may rest k = record { stays = λ e f wanted own stands joined w. over e f wanted own stands joined w k.goes; rises = k.ascends; asks = plain_so c (told_onto n o.told trace) me o.view came o.sent k.sent }
  where
    over : (e : EpochId) (f : FileId) (wanted own : Stamp) → Stands c trace f wanted → has_joined (entries trace) me e ≡ true → WantsAt c trace me v e f wanted own →
        ((o.view.epoch ≡ v.epoch) × (o.view.pulls ≡ v.pulls)) ⊎ ((o.view.epoch ≡ None) ⊎ ((x : InEpoch) × (o.view.epoch ≡ Some x) × Among (Shown (says.Join me x.id x.members)) o.told)) → WantsAt c (told_onto n o.told trace) me o.view e f wanted own
    over e f wanted own stands joined w (inl same) = λ x here is. subst (λ (ps : List Pull). WantsOver c (told_onto n o.told trace) me ps f wanted own) (sym same.1)
        (wants_lines c n me v.pulls f wanted own o.told trace past may rest (every_at n NoAdoption (λ t y. IsAdopted me y → ⊥) (λ y t u a. no_adoption me y u a) o.told trace k.told) stands (w x (sym same.0 ∙ here) is))
    over e f wanted own stands joined w (inr (inl none)) = λ x here is. absurd (none_some x (sym none ∙ here))
    over e f wanted own stands joined w (inr (inr new)) = λ x here is. absurd (joined_never c n o.told trace me new.0.id new.0.members may new.2
        (subst (λ (y : EpochId). has_joined (entries trace) me y ≡ true) (sym is ∙ ap (λ (y : InEpoch). y.id) (sym (some_same new.0 x (sym new.1 ∙ here)))) joined))

-- what was sent before another part is so after it
module _ (c : Config) (n : ℕ) (mid : List Line) (me : ℕ) (v view : SiteView) (told : List Told) (came : Option Packet) (past : Past c mid) (may : AllTold c n mid told) (rest : AllRest c n mid told)
    (keeps : (e : EpochId) (f : FileId) (wanted own : Stamp) → Stands c mid f wanted → has_joined (entries mid) me e ≡ true → WantsAt c mid me v e f wanted own → WantsAt c (told_onto n told mid) me view e f wanted own) where
  answers_later : (o : Option Packet) (p : Packet) (file : FileId) (wanted : Stamp) (pages : List ℕ) → AnswersSo c mid o p file wanted pages → AnswersSo c (told_onto n told mid) o p file wanted pages
  answers_later None p file wanted pages h = h
  answers_later (Some q) p file wanted pages h = (h.0, h.1, h.2, h.3, differ_onto c n told mid past may rest file h.0 wanted pages h.4)

  body_later : (p : Packet) (b : Body) → BodyFact c mid p b → BodySo c mid me v came p b → BodySo c (told_onto n told mid) me view came p b
  body_later p (body.Want file wanted own) fact h = (h.0, keeps p.epoch file wanted own fact.wanted_stands (subst (λ (s : ℕ). has_joined (entries mid) s p.epoch ≡ true) h.0 fact.joined) h.1)
  body_later p (body.Delta file wanted pages) fact h = answers_later came p file wanted pages h
  body_later p _ fact h = tt

  pub sent_later : (ps : List Packet) → Every (PacketFact c mid) ps → Every (SentSo c mid me v came) ps → Every (SentSo c (told_onto n told mid) me view came) ps
  sent_later [] facts h = tt
  sent_later (p ∷ ps) facts h = (body_later p p.body facts.0 h.0, sent_later ps facts.1 h.1)

-- one part after another
pub then_wants : (c : Config) (n : ℕ) (trace : List Line) (me : ℕ) (v mid view : SiteView) (first last : List Told) (came : Option Packet) (before after : List Packet) → Past c (told_onto n first trace) → AllTold c n (told_onto n first trace) last → AllRest c n (told_onto n first trace) last → Every (PacketFact c (told_onto n first trace)) before →
    PartWants c n trace me v mid first came before → PartWants c n (told_onto n first trace) me mid view last came after → PartWants c n trace me v view (first ++ last) came (before ++ after)
then_wants c n trace me v mid view first last came before after past may rest facts a b = record {
  stays = λ e f wanted own stands joined w. subst (λ (t : List Line). WantsAt c t me view e f wanted own) (sym (onto_append n first last trace))
      (b.stays e f wanted own (stands_onto c n first trace f wanted stands) (joined_onto n first trace me e joined) (a.stays e f wanted own stands joined w));
  rises = λ h. b.rises (a.rises h);
  asks = subst (λ (t : List Line). Every (SentSo c t me view came) (before ++ after)) (sym (onto_append n first last trace))
      (every_append (SentSo c (told_onto n last (told_onto n first trace)) me view came) before after (sent_later c n (told_onto n first trace) me mid view last came past may rest b.stays before facts a.asks) b.asks);
}
