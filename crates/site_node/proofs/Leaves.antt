-- A site leaves its epoch: its place in epochs, and then the rest.
use Rattle.std.proofs.Common.{◌≡◌, ℕ, List, [], ◌++◌, append_assoc, append-nil, Option, Some, refl, sym, ap, ◌∙◌, subst}
use Rattle.locus_ids.specs.declared.ids.EpochId.{EpochId}
use Rattle.wire_messages.specs.Outboxes.{Outgoing}
use Rattle.site_frame.specs.Printed.{printed}
use Rattle.role_steps.specs.Views.{SiteView, Users, Outcome}
use Rattle.role_steps.specs.Epochs.{with_users}
use Rattle.role_steps.specs.Using.{users_leave}
use Rattle.site_parts.specs.of_using_site.Steps.{Gives}
use Rattle.merge_protocol.specs.Parts.{EpochPart, dropped, epoch_part, with_part, alone, rest_leaves}
use Rattle.merge_protocol.specs.Laws.{LeavesBy}
use Rattle.site_node.specs.Views.{view_of, Works}
use Rattle.site_node.specs.declared.node.SiteNode.{SiteNode}

rest_given : (f : SiteView → Outcome SiteView) (me : ℕ) (left expected : Option EpochId) (old new : SiteNode) (part : EpochPart) (a b c : Outgoing) (image : List ℕ) → left ≡ expected → part ≡ epoch_part (f (alone old.epochs)).view
    → Gives (rest_leaves me left (view_of (record old { epochs = part }) image)) (view_of new image) b c → Gives (rest_leaves me expected (with_part (epoch_part (f (alone old.epochs)).view) (view_of old image))) (view_of new image) b c
rest_given f me left expected old new part a b c image l e g =
    subst (λ (o : Option EpochId). Gives (rest_leaves me o (with_part (epoch_part (f (alone old.epochs)).view) (view_of old image))) (view_of new image) b c) l
    (subst (λ (p : EpochPart). Gives (rest_leaves me left (with_part p (view_of old image))) (view_of new image) b c) e g)

whole_given : (f : SiteView → Outcome SiteView) (me : ℕ) (left : Option EpochId) (old new : SiteNode) (a b c : Outgoing) (image : List ℕ) → LeavesBy me left (view_of old image) f
    → b.packets ≡ a.packets ++ (f (alone old.epochs)).sent → b.records ≡ a.records ++ printed (f (alone old.epochs)).told
    → Gives (rest_leaves me left (with_part (epoch_part (f (alone old.epochs)).view) (view_of old image))) (view_of new image) b c → Gives (f (view_of old image)) (view_of new image) a c
whole_given f me left old new a b c image l p r k =
    let rest : Outcome SiteView = rest_leaves me left (with_part (epoch_part (f (alone old.epochs)).view) (view_of old image)) in record {
      view = k.view ∙ sym l.0;
      packets = k.packets ∙ (ap (λ xs. b.packets ++ xs) l.2 ∙ (append-nil b.packets ∙ (p ∙ ap (λ xs. a.packets ++ xs) (sym l.1))));
      records = k.records ∙ (ap (λ xs. xs ++ printed rest.told) r ∙ (append_assoc a.records (printed (f (alone old.epochs)).told) (printed rest.told) ∙ ap (λ xs. a.records ++ xs) (sym l.3)));
    }

-- what its place in epochs does, and then what the rest does, is what the site does
pub leaves_by : (f : SiteView → Outcome SiteView) (me : ℕ) (left expected : Option EpochId) (old new : SiteNode) (part : EpochPart) (a b c : Outgoing)
    → ((image : List ℕ) → LeavesBy me expected (view_of old image) f) → left ≡ expected → part ≡ epoch_part (f (alone old.epochs)).view
    → b.packets ≡ a.packets ++ (f (alone old.epochs)).sent → b.records ≡ a.records ++ printed (f (alone old.epochs)).told
    → Works (rest_leaves me left) (record old { epochs = part }) new b c → Works f old new a c
leaves_by f me left expected old new part a b c law l e p r w = record {
  gives = λ image h. whole_given f me expected old new a b c image (law image) p r (rest_given f me left expected old new part a b c image l e (w.gives image h));
  packs = w.packs;
  config = w.config;
  me = w.me;
}

-- the rest leaves an epoch
pub rest_left : (me boot : ℕ) (id : EpochId) (old : SiteNode) (users : Users) (a b : Outgoing) → boot ≡ old.epochs.boot → users ≡ (users_leave me boot id old.users).view → b.packets ≡ a.packets
    → b.records ≡ a.records ++ printed (users_leave me boot id old.users).told → Works (rest_leaves me (Some id)) old (record old { tables = []; store = record { instances = []; steps = [] }; users = users; pulls = [] }) a b
rest_left me boot id old users a b e u p r = record {
  gives = λ image h. record {
    view = ap (with_users (dropped (view_of old image))) u;
    packets = p ∙ sym (append-nil a.packets);
    records = r ∙ ap (λ (n : ℕ). a.records ++ printed (users_leave me n id old.users).told) e;
  };
  packs = refl;
  config = refl;
  me = refl;
}

-- the same, where the site's number was read before
pub leaves_as : (g : ℕ → SiteView → Outcome SiteView) (m : ℕ) (left expected : Option EpochId) (old new : SiteNode) (part : EpochPart) (a b c : Outgoing) → m ≡ old.frame.me
    → ((image : List ℕ) → LeavesBy m expected (view_of old image) (g m)) → left ≡ expected → part ≡ epoch_part (g m (alone old.epochs)).view
    → b.packets ≡ a.packets ++ (g m (alone old.epochs)).sent → b.records ≡ a.records ++ printed (g m (alone old.epochs)).told → Works (rest_leaves old.frame.me left) (record old { epochs = part }) new b c → Works (g old.frame.me) old new a c
leaves_as g m left expected old new part a b c e law l p q r w =
    subst (λ (k : ℕ). Works (g k) old new a c) e (leaves_by (g m) m left expected old new part a b c law l p q r (subst (λ (k : ℕ). Works (rest_leaves k left) (record old { epochs = part }) new b c) (sym e) w))
