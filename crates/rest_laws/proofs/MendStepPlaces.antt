-- A mend's instance is at the synchronization site of its group.
use Rattle.std.proofs.Common.{◌≡◌, ℕ, ◌==◌, true, not, List, [], ◌∷◌, Option, Some, None, sym, ◌∙◌, ap, subst, inl, inr}
use Rattle.std.specs.Option.{is_none}
use Rattle.role_steps.proofs.of_plain_facts.Numbers.{equal}
use Rattle.role_steps.proofs.of_plain_facts.Tests.{and_first, and_second, true_false}
use Rattle.locus_ids.specs.declared.config.Config.{Config}
use Rattle.locus_ids.specs.declared.ids.CallId.{CallId}
use Rattle.locus_ids.specs.declared.ids.EpochId.{EpochId}
use Rattle.locus_ids.specs.declared.ids.FileId.{FileId}
use Rattle.locus_ids.specs.declared.ids.Mode.{Mode}
use Rattle.locus_ids.specs.declared.ids.Mode.TheVariants as mode
use Rattle.locus_ids.specs.declared.ids.Serial.{Serial}
use Rattle.locus_ids.specs.declared.ids.Stamp.{Stamp}
use Rattle.commit_graph.specs.declared.history.Version.{Version}
use Rattle.trace_book.specs.declared.record.Record.{Record}
use Rattle.trace_book.specs.declared.record.Record.TheVariants as says
use Rattle.role_steps.specs.Views.{Told, Shown}
use Rattle.the_run.specs.Worlds.{Line}
use Rattle.tree_model.specs.Epochs.{members_of}
use Rattle.tree_model.specs.Given.{gives_grant}
use Rattle.tree_model.specs.Opening.{is_site, open_refusal}
use Rattle.tree_model.specs.Packs.{sync_site}
use Rattle.tree_model.specs.State.{TreeState, held_at, is_granted}
use Rattle.tree_model.specs.Histories.{history}
use Rattle.tree_model.specs.Same.{same_version}
use Rattle.tree_model.specs.Tree.{tree_of}
use Rattle.tree_laws.specs.Following.{IsFollowed, MayTell}
use Rattle.tree_laws.specs.Past.{GrantRecord, Printed, WasGranted}
use Rattle.tree_laws.specs.Printed.{entries}
use Rattle.tree_laws.proofs.Fresh.{IsListed, call_listed}
use Rattle.tree_laws.proofs.Kinship.{tree_group_is}
use Rattle.tree_laws.proofs.Mending.{members_stay}
use Rattle.store_laws.proofs.of_tree_laws.Orders.Knowing.{tree_config}
use Rattle.store_laws.proofs.of_tree_laws.Syncs.Merging.{tree_members}

-- ---- where a mend is granted ----

site_is : (o : Option ℕ) (s : ℕ) → is_site o s ≡ true → o ≡ Some s
site_is None s e = absurd (true_false (sym e))
site_is (Some x) s e = ap Some (equal x s e)

mend_site : (h : List Version) (s : TreeState) (call : CallId) (i : Serial) (f : FileId) (on : Option Stamp) (place : ℕ) → gives_grant h s call i mode.Mend f on place ≡ true → sync_site s.config s.group s.members ≡ Some place
mend_site h s call i f on place g = site_is (sync_site s.config s.group s.members) place (and_first (is_site (sync_site s.config s.group s.members) place) (same_version (held_at s place f.ino) on)
    (and_second (not (is_granted s i)) _ (and_second (i.us == call.site) _ (and_second (is_none (open_refusal h s mode.Mend call f)) _ (and_second s.started _ g)))))

module _ (c : Config) where
  tree_site : (e : EpochId) (g : ℕ) (older : List Line) → sync_site (tree_of c e g (entries older)).config (tree_of c e g (entries older)).group (tree_of c e g (entries older)).members ≡ sync_site c g (members_of (entries older) e)
  tree_site e g older = ap (λ (x : Config). sync_site x (tree_of c e g (entries older)).group (tree_of c e g (entries older)).members) (tree_config c e g (entries older))
      ∙ (ap (λ (n : ℕ). sync_site c n (tree_of c e g (entries older)).members) (tree_group_is c e g (entries older)) ∙ ap (sync_site c g) (tree_members c e g (entries older)))

  -- it is at the synchronization site
  place_record : (older : List Line) (r : Record) → MayTell c older (Shown r) → (e : EpochId) (d : CallId) (request : ℕ) (i : Serial) (f : FileId) (stamp : Option Stamp) (ss : ℕ) → GrantRecord e d request i mode.Mend f stamp ss older r → sync_site c f.group (members_of (entries older) e) ≡ Some ss
  place_record older (says.Grant at call number inst m file on place) may e d request i f stamp ss k =
      subst (λ (y : EpochId). sync_site c f.group (members_of (entries older) y) ≡ Some ss) k.epoch_is
      (subst (λ (y : FileId). sync_site c y.group (members_of (entries older) at) ≡ Some ss) k.file_is
      (subst (λ (y : ℕ). sync_site c file.group (members_of (entries older) at) ≡ Some y) k.place_is
      (sym (tree_site at file.group older) ∙ mend_site (history c (entries older)) (tree_of c at file.group (entries older)) call inst file on place
      (subst (λ (y : Mode). gives_grant (history c (entries older)) (tree_of c at file.group (entries older)) call inst y file on place ≡ true) k.mode_is may.row.gives))))
  place_record older _ may e d request i f stamp ss k = absurd k

  record MendAt (t : List Line) (e : EpochId) (f : FileId) (ss : ℕ) : Type 0 where
    site_is : sync_site c f.group (members_of (entries t) e) ≡ Some ss
    listed : IsListed (entries t) e

  place_now : (older : List Line) (n : ℕ) (r : Record) → MayTell c older (Shown r) → (e : EpochId) (d : CallId) (request : ℕ) (i : Serial) (f : FileId) (stamp : Option Stamp) (ss : ℕ) → GrantRecord e d request i mode.Mend f stamp ss older r → MendAt (record { number = n; told = Shown r } ∷ older) e f ss
  place_now older n (says.Grant at call number inst m file on place) may e d request i f stamp ss k = record {
    site_is = place_record older (says.Grant at call number inst m file on place) may e d request i f stamp ss k;
    listed = subst (IsListed (entries older)) k.epoch_is (call_listed older call may.row.opens.step.accepted at may.row.opens.step.named may.row.opens.step.made_in);
  }
  place_now older n _ may e d request i f stamp ss k = absurd k

  all_places : (t : List Line) → IsFollowed c t → (e : EpochId) (d : CallId) (request : ℕ) (i : Serial) (f : FileId) (stamp : Option Stamp) (ss : ℕ) → WasGranted t e d request i mode.Mend f stamp ss → MendAt t e f ss
  all_places [] h e d request i f stamp ss k = absurd k
  all_places (x ∷ older) h e d request i f stamp ss (inr k) = later (all_places older h.1 e d request i f stamp ss k)
    where
      later : MendAt older e f ss → MendAt (x ∷ older) e f ss
      later m = record { site_is = ap (sync_site c f.group) same ∙ m.site_is; listed = (m.listed.0, same ∙ m.listed.1) }
        where
          same : members_of (entries (x ∷ older)) e ≡ members_of (entries older) e
          same = members_stay c x.number x.told older e h.0 m.listed
  all_places (x ∷ older) h e d request i f stamp ss (inl k) = over x.told h.0 k
    where
      over : (y : Told) → MayTell c older y → Printed (GrantRecord e d request i mode.Mend f stamp ss) older y → MendAt (record { number = x.number; told = y } ∷ older) e f ss
      over (Shown r) may k = place_now older x.number r may e d request i f stamp ss k
      over _ may k = absurd k

  pub mend_place : (t : List Line) → IsFollowed c t → (e : EpochId) (d : CallId) (request : ℕ) (i : Serial) (f : FileId) (stamp : Option Stamp) (ss : ℕ) → WasGranted t e d request i mode.Mend f stamp ss → sync_site c f.group (members_of (entries t) e) ≡ Some ss
  mend_place t h e d request i f stamp ss k = (all_places t h e d request i f stamp ss k).site_is
