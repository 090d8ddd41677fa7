-- What is sent again at a tick is brought into its order where it is of the format.
use Rattle.std.proofs.Common.{◌≡◌, ℕ, List, [], ◌++◌, Option, Some, refl, sym, ap, ◌∙◌, subst}
use Rattle.std.specs.Prelude.{Result, Ok, Err, IsErrAnd}
use Rattle.std.specs.List.{AllByRecursion}
use Rattle.wire_messages.specs.Outboxes.{Outgoing}
use Rattle.packet_order.specs.Counts.{FitsIfCounted}
use Rattle.wire_messages.specs.declared.packet.Packet.{Packet}
use Rattle.role_steps.specs.Epochs.{frame_in}
use Rattle.role_steps.specs.Views.{Frame, SiteView}
use Rattle.role_steps.specs.declared.rounds.InEpoch.{InEpoch}
use Rattle.the_run.specs.Steps.{repeats, repeats_inside}
use Rattle.packet_order.specs.declared.fault.OrderFault.{OrderFault}
use Rattle.packet_order.specs.declared.fault.OrderFault.TheVariants.{NoMemory, Unfit}
use Rattle.site_node.specs.Repeats.{forming_repeats}
use Rattle.site_node.specs.Views.{view_of}
use Rattle.site_node.specs.declared.node.SiteNode.{SiteNode}
use Rattle.site_node.proofs.Fitted.{inside_fit}

is_fault : {T : Type 0} (e f : OrderFault) → ◌≡◌ {A = Result T OrderFault} (Err e) (Err f) → e ≡ f
is_fault e f is = cc

memory_unfit : NoMemory ≡ Unfit → ⊥
memory_unfit e = cc

as_fault : {S : Type 0} (e f : OrderFault) → e ≡ f → ◌≡◌ {A = Result S OrderFault} (Err e) (Err f)
as_fault {S = S} e f is = subst (λ (g : OrderFault). ◌≡◌ {A = Result S OrderFault} (Err e) (Err g)) is refl

-- want of memory isn't it
pub order_memory : {T : Type 0} (r : Result T OrderFault) → IsErrAnd r (λ f. f ≡ NoMemory) → r ≡ Err Unfit → ⊥
order_memory (Ok x) h so = absurd h
order_memory (Err f) h so = memory_unfit (sym h ∙ is_fault f Unfit so)

-- a fault that a part hands on is, where it was
pub order_at : {T S : Type 0} (P : Type 0) (r : Result T OrderFault) (e : OrderFault) → IsErrAnd r (λ f. f ≡ e) → (◌≡◌ {A = Result S OrderFault} (Err e) (Err Unfit) → P → ⊥) → r ≡ Err Unfit → P → ⊥
order_at P (Ok x) e h unfit so = absurd h
order_at {S = S} P (Err f) e h unfit so = unfit (as_fault {S = S} e Unfit (sym h ∙ is_fault f Unfit so))

abbrev AllFit : List Packet → Type 0
AllFit ps = AllByRecursion FitsIfCounted ps

-- an outbox that has these packets alone
pub outbox_fit : (ps : List Packet) (a b : Outgoing) → a.packets ≡ [] → b.packets ≡ a.packets ++ ps → AllFit ps → AllFit b.packets
outbox_fit ps a b none is h = subst AllFit (sym (is ∙ ap (λ (xs : List Packet). xs ++ ps) none)) h

-- in the epoch of the frame
pub again_inside : (n : SiteNode) (frame : Frame) (o : Option InEpoch) (e : InEpoch) (image : List ℕ) → o ≡ n.epochs.epoch → o ≡ Some e → frame ≡ frame_in n.frame.config n.frame.me n.epochs.boot e → AllFit (repeats n.frame.config n.frame.me (view_of n image)) → AllFit (repeats_inside frame e (view_of (record n { frame = frame }) image))
again_inside n frame o e image h is f fit = subst (λ (x : Frame). AllFit (repeats_inside x e (view_of n image))) (sym f) (inside_fit n.frame.config n.frame.me (view_of n image) e (sym h ∙ is) fit)
