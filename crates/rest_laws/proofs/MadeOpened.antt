-- The answer of a storage site to an open, at the synchronization site: of a file that stood its user is told so; a make gets its number,
-- or is refused.
use Rattle.std.proofs.Common.{◌≡◌, ℕ, ◌+◌, ◌*◌, ◌<◌, List, [], Option, Some, None, refl, sym, ap, ◌∙◌, subst, ◌⊎◌, inl, inr, arith}
use Rattle.role_steps.proofs.of_plain_facts.Options.{some_same}
use Rattle.locus_ids.specs.declared.config.Config.{Config}
use Rattle.locus_ids.specs.declared.ids.EpochId.{EpochId}
use Rattle.locus_ids.specs.declared.ids.FileId.{FileId}
use Rattle.locus_ids.specs.declared.ids.Mode.{Mode}
use Rattle.locus_ids.specs.declared.ids.Mode.TheVariants as mode
use Rattle.locus_ids.specs.declared.ids.Serial.{Serial}
use Rattle.locus_ids.specs.declared.refusal.Refusal.TheVariants as refusal
use Rattle.locus_ids.specs.Sizes.{sites_max}
use Rattle.wire_messages.specs.declared.body.Body.TheVariants as body
use Rattle.wire_messages.specs.declared.body.OpenedAs.{OpenedAs}
use Rattle.wire_messages.specs.declared.body.OpenedAs.TheVariants as opened
use Rattle.wire_messages.specs.declared.packet.Packet.{Packet}
use Rattle.role_steps.specs.Opens.{answers_open, by_stage, on_opened, on_opened_of, open_key, open_row}
use Rattle.role_steps.specs.Views.{Frame, serial_key}
use Rattle.role_steps.specs.declared.synchronizing.OpenRow.{OpenRow}
use Rattle.role_steps.specs.declared.synchronizing.OpenStage.{OpenStage}
use Rattle.role_steps.specs.declared.synchronizing.OpenStage.TheVariants as stage
use Rattle.role_steps.specs.declared.synchronizing.SyncTable.{SyncTable}
use Rattle.the_run.specs.Worlds.{Line}
use Rattle.tree_laws.specs.Doing.{TableFine}
use Rattle.tree_laws.specs.Instances.{IsFull}
use Rattle.tree_laws.specs.Packets.{BodyFact, MakesNow, OpenedFact, RefusedFull}
use Rattle.tree_laws.specs.Past.{WasBegun, WasRefused}
use Rattle.tree_laws.specs.Tables.{RowFact}
use Rattle.store_laws.specs.of_tree_laws.Syncs.Opening.{IsFileMode}
use Rattle.store_laws.specs.of_tree_laws.Syncs.Serving.{Serving}
use Rattle.store_laws.proofs.of_tree_laws.Syncs.Answering.{answered_fine, refused_named}
use Rattle.store_laws.proofs.of_tree_laws.Syncs.Looks.{sends_fine}
use Rattle.store_laws.proofs.of_tree_laws.Syncs.Rows.{row_every, row_key_is}
use Rattle.store_laws.specs.OneTree.Rest.{AllRest, Past}
use Rattle.store_laws.specs.OneTree.Roles.{Came, Ready, TableHere}
use Rattle.rest_laws.specs.MadeResting.{MadeRests}
use Rattle.rest_laws.proofs.MadeAnswered.{granted_fine, refused_fine, unnamed_yet}
use Rattle.rest_laws.proofs.MadePlacing.{HasName, IsAt, begun_at, begun_site, named_site, same_make}

serial_same : (a b : Serial) → a.us < 256 → b.us < 256 → serial_key a ≡ serial_key b → a ≡ b
serial_same a b low small e = λ i. record { us = us_is i; serial = serial_is i }
  where
    number : a.serial * 256 + a.us ≡ b.serial * 256 + b.us
    number = e

    us_is : a.us ≡ b.us
    us_is = omega (arith, low, small, number)

    serial_is : a.serial ≡ b.serial
    serial_is = omega (arith, low, small, number)

module _ (c : Config) (rests : MadeRests c) (n : ℕ) (trace : List Line) (f : Frame) (from : ℕ) (i : Serial) (tab : SyncTable) (past : Past c trace) (sv : Serving c n trace f tab) where
  small : (s : ℕ) → s < sites_max + 1 → s < 256
  small s h = omega (arith, h)

  -- whom an answer is for is one of the sites
  low_of : HasName trace i → i.us < 256
  low_of k = subst (λ (s : ℕ). s < 256) (sym k.1) (small k.0.site (sv.calls.narrow k.0 k.2.0 k.2.1))

  low : (a : OpenedAs) → OpenedFact c trace f.epoch from i a → i.us < 256
  low (opened.Open ino size) k = low_of (begun_site c trace sv.followed from f.epoch i k.0 k.1)
  low (opened.No why) k = over k.1.make
    where
      over : RefusedFull c trace f.epoch from i k.1.group ⊎ MakesNow c trace f.epoch from i k.1.group k.1.set k.1.kind → i.us < 256
      over (inl z) = low_of (named_site c trace sv.followed f.epoch i (refused_named trace f.epoch z.call z.request i mode.Make refusal.NoInode z.was_refused))
      over (inr z) = low_of (z.call, z.user_is, (z.asks.inside.accepted, z.asks.inside.named))

  module _ (r : OpenRow) (here : open_row tab i ≡ Some r) (small_user : i.us < 256) where
    fact : RowFact c trace f.epoch tab.group r
    fact = row_every (RowFact c trace f.epoch tab.group) open_key (serial_key i) tab.opens r sv.table.opens here

    its : r.inst ≡ i
    its = serial_same r.inst i (subst (λ (s : ℕ). s < 256) fact.is_call.site_is (small fact.call.site (sv.calls.narrow fact.call fact.is_call.caller fact.is_call.named))) small_user (row_key_is open_key (serial_key i) tab.opens r here)

    -- a make that waits for its number
    module _ (make : r.mode ≡ mode.Make) (waits : r.stage ≡ stage.Asked) where
      as_it_is : r ≡ record r { mode = mode.Make; stage = stage.Asked }
      as_it_is = λ j. record r { mode = make j; stage = waits j }

      its_fact : RowFact c trace f.epoch tab.group (record r { mode = mode.Make; stage = stage.Asked })
      its_fact = subst (RowFact c trace f.epoch tab.group) as_it_is fact

      found : open_row tab r.inst ≡ Some (record r { mode = mode.Make; stage = stage.Asked })
      found = ap (open_row tab) its ∙ (here ∙ ap (λ (z : OpenRow). Some z) as_it_is)

      its_now : MakesNow c trace f.epoch r.ss r.inst r.file.group r.set r.kind
      its_now = its_fact.stage.make

      answered : (a : OpenedAs) → OpenedFact c trace f.epoch from i a → TableFine c n trace f tab.group (answers_open f (record r { mode = mode.Make; stage = stage.Asked }) a tab)
      answered (opened.Open ino size) k = granted_fine c n trace f tab past sv (rests.said trace past) r its_fact found ino size begun
        where
          was : WasBegun trace from f.epoch r.inst k.0
          was = subst (λ (j : Serial). WasBegun trace from f.epoch j k.0) (sym its) k.1

          at : IsAt from r.ss k.0.group r.file.group
          at = begun_at c trace sv.followed f.epoch from r.ss r.inst k.0 r.file.group r.set r.kind was its_now

          file_is : k.0 ≡ record { group = r.file.group; ino = ino }
          file_is = λ j. record { group = at.group_is j; ino = k.2 j }

          begun : WasBegun trace r.ss f.epoch r.inst (record { group = r.file.group; ino = ino })
          begun = subst (λ (h : FileId). WasBegun trace r.ss f.epoch r.inst h) file_is (subst (λ (s : ℕ). WasBegun trace s f.epoch r.inst k.0) at.site was)
      answered (opened.No why) k = refused_fine c n trace f tab past sv (rests.said trace past) r its_fact found why k.0 full (subst (λ (j : Serial). (s : ℕ) (file : FileId) → WasBegun trace s f.epoch j file → ⊥) (sym its) k.1.unbegun)
          (rests.lacks trace past f.epoch r.ss r.inst r.file.group r.set r.kind its_now full)
        where
          of : RefusedFull c trace f.epoch from i k.1.group ⊎ MakesNow c trace f.epoch from i k.1.group k.1.set k.1.kind → IsFull c trace f.epoch r.ss r.file.group
          of (inl z) = absurd (unnamed_yet c n trace f tab past sv (rests.said trace past) r its_fact found (refused_named trace f.epoch z.call z.request r.inst mode.Make refusal.NoInode (subst (λ (j : Serial). WasRefused trace f.epoch z.call z.request j mode.Make refusal.NoInode) (sym its) z.was_refused)))
          of (inr z) = (let at : IsAt from r.ss k.1.group r.file.group = same_make c trace sv.followed f.epoch from r.ss r.inst k.1.group r.file.group k.1.set r.set k.1.kind r.kind (subst (λ (j : Serial). MakesNow c trace f.epoch from j k.1.group k.1.set k.1.kind) (sym its) z) its_now in
              subst (λ (g : ℕ). IsFull c trace f.epoch r.ss g) at.group_is (subst (λ (s : ℕ). IsFull c trace f.epoch s k.1.group) at.site k.1.full))

          full : IsFull c trace f.epoch r.ss r.file.group
          full = of k.1.make

      make_fine : (a : OpenedAs) → OpenedFact c trace f.epoch from i a → TableFine c n trace f tab.group (by_stage f r a r.stage tab)
      make_fine a k = subst (λ (z : OpenRow). TableFine c n trace f tab.group (by_stage f z a z.stage tab)) (sym as_it_is) (answered a k)

    -- ---- any open ----

    -- that of a file that stood
    plain : (a : OpenedAs) → OpenedFact c trace f.epoch from i a → (m : Mode) → r.mode ≡ m → IsFileMode m → (s : OpenStage) → r.stage ≡ s → TableFine c n trace f tab.group (by_stage f r a s tab)
    plain a k m e file s w = subst (λ (z : OpenStage). TableFine c n trace f tab.group (by_stage f r a z tab)) w
        (subst (λ (o : Option OpenRow). TableFine c n trace f tab.group (on_opened_of f a o tab)) here (answered_fine c n trace f tab sv from i small_user a k (λ z found. subst (λ (y : OpenRow). IsFileMode y.mode) (some_same r z (sym here ∙ found)) (subst IsFileMode (sym e) file))))

    by_it : (a : OpenedAs) → OpenedFact c trace f.epoch from i a → (m : Mode) → r.mode ≡ m → (s : OpenStage) → r.stage ≡ s → TableFine c n trace f tab.group (by_stage f r a s tab)
    by_it a k mode.Make e stage.Asked w = subst (λ (s : OpenStage). TableFine c n trace f tab.group (by_stage f r a s tab)) w (make_fine e w a k)
    by_it a k mode.Make e stage.Granted w = sends_fine c n trace f tab [] tab refl sv.table tt
    by_it a k mode.Make e (stage.Refused why) w = sends_fine c n trace f tab [] tab refl sv.table tt
    by_it a k mode.Make e stage.Ended w = sends_fine c n trace f tab [] tab refl sv.table tt
    by_it a k mode.Read e s w = plain a k mode.Read e tt s w
    by_it a k mode.Write e s w = plain a k mode.Write e tt s w
    by_it a k mode.Resolve e s w = plain a k mode.Resolve e tt s w
    by_it a k mode.Mend e s w = plain a k mode.Mend e tt s w

  pub opened_fine : (a : OpenedAs) → OpenedFact c trace f.epoch from i a → TableFine c n trace f tab.group (on_opened f i a tab)
  opened_fine a k = over (open_row tab i) refl
    where
      over : (o : Option OpenRow) → open_row tab i ≡ o → TableFine c n trace f tab.group (on_opened_of f a o tab)
      over None e = sends_fine c n trace f tab [] tab refl sv.table tt
      over (Some r) e = by_it r e (low a k) a k r.mode refl r.stage refl

-- the step as the induction over a run asks for it
pub opens_answered : (c : Config) → MadeRests c → (n : ℕ) (trace : List Line) (f : Frame) (p : Packet) (i : Serial) (a : OpenedAs) (t : SyncTable) → Ready c trace f → TableHere c trace f t → Came c trace f p (body.Opened i a) → AllRest c n trace (on_opened f i a t).told → TableFine c n trace f t.group (on_opened f i a t)
opens_answered c rests n trace f p i a t ready here came fresh = opened_fine c rests n trace f p.from i t ready.past (rests.serves n trace f t ready here) a
    (subst (λ (e : EpochId). OpenedFact c trace e p.from i a) came.received.epoch_is (subst (BodyFact c trace p) came.body_is came.fact))
