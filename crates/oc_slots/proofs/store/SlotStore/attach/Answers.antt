use Rattle.std.proofs.Common.{◌≡◌, ◌∙◌, ◌⊎◌, ℕ, List, sym, ap, subst, arith}
use Rattle.std.specs.Prelude.{IsTrue}
use Rattle.oc_host.specs.Disk.{Disk}
use Rattle.oc_layout.specs.declared.cells.CellWrite.{CellWrite}
use Rattle.oc_layout.specs.declared.cells.Header.{Header}
use Rattle.oc_pages.specs.declared.page.Page.{Page}
use Rattle.oc_slots.specs.Attaching.{IsFound, IsMade, MayBeMade}
use Rattle.oc_slots.specs.Forms.{HasForm, Gives, GivesFrom}
use Rattle.oc_slots.specs.Maps.{SlotMap, Same}
use Rattle.oc_slots.specs.Stores.{committed}
use Rattle.oc_slots.proofs.Attached.{on_ok_map, all_leaves, found_first, len_looks, said_kept}
use Rattle.oc_slots.proofs.Grounds.{ok_map}
use Rattle.oc_slots.proofs.store.SlotStore.attach.Goals as goal

pub returns-clause-gives : goal.returns-clause-gives
returns-clause-gives g c =
    let old = g.H.Host.disk c.args.host.now in
    let e = g.H.Host.disk c.len.new.self in
    let f = g.H.Host.disk c.attach_synced.new.host in
    ok_map c.attach_synced.result (λ store. IsTrue g.H.Host.tells → (m : SlotMap) → Gives e.bytes m → Same (committed store f) m) (λ store. IsTrue g.H.Host.tells → (m : SlotMap) → Gives old.bytes m → Same (committed store f) m) c.attach_synced.ensures.gives
    (λ store was told m gives. was told m (subst (λ b. Gives b m) (sym (ap (λ (x : Disk). x.bytes) (c.in_ok-len.ensures.disk told) ∙ ap (λ (x : Disk). x.bytes) (c.in_ok-sync.ensures.disk told))) gives))

pub returns-clause-form : goal.returns-clause-form
returns-clause-form g c =
    let old = g.H.Host.disk c.args.host.now in
    let e = g.H.Host.disk c.len.new.self in
    let f = g.H.Host.disk c.attach_synced.new.host in
    ok_map c.attach_synced.result (λ store. IsTrue g.H.Host.tells → (h : Header) (ws : List CellWrite) (pages : List Page) → HasForm h ws pages e.bytes → IsFound h ws pages store e.bytes f.bytes) (λ store. IsTrue g.H.Host.tells → (h : Header) (ws : List CellWrite) (pages : List Page) → HasForm h ws pages old.bytes → IsFound h ws pages store old.bytes f.bytes) c.attach_synced.ensures.form
    (λ store was told. subst (λ b. (h : Header) (ws : List CellWrite) (pages : List Page) → HasForm h ws pages b → IsFound h ws pages store b f.bytes) (ap (λ (x : Disk). x.bytes) (c.in_ok-len.ensures.disk told) ∙ ap (λ (x : Disk). x.bytes) (c.in_ok-sync.ensures.disk told)) (was told))

pub returns-clause-first : goal.returns-clause-first
returns-clause-first g c =
    let old = g.H.Host.disk c.args.host.now in
    let f = g.H.Host.disk c.attach_synced.new.host in
    ok_map c.attach_synced.result (λ store. IsTrue g.H.Host.tells → (h : Header) (ws : List CellWrite) (pages : List Page) → HasForm h ws pages old.bytes → IsFound h ws pages store old.bytes f.bytes) (λ store. IsTrue g.H.Host.tells → (first : ℕ) (m : SlotMap) → GivesFrom first old.bytes m → (store.header).first ≡ first) (returns-clause-form g c)
    (λ store was told first m from. found_first first m store old.bytes f.bytes from (was told (from.gives).header (from.gives).writes (from.gives).pages (from.gives).form))

pub returns-clause-made : goal.returns-clause-made
returns-clause-made g c =
    let old = g.H.Host.disk c.args.host.now in
    let e = g.H.Host.disk c.len.new.self in
    let f = g.H.Host.disk c.attach_synced.new.host in
    ok_map c.attach_synced.result (λ store. IsTrue g.H.Host.tells → MayBeMade c.args.making.now.anew e.bytes → IsMade c.args.making.now store f) (λ store. IsTrue g.H.Host.tells → MayBeMade c.args.making.now.anew old.bytes → IsMade c.args.making.now store f) c.attach_synced.ensures.made
    (λ store was told made. was told (subst (MayBeMade c.args.making.now.anew) (sym (ap (λ (x : Disk). x.bytes) (c.in_ok-len.ensures.disk told) ∙ ap (λ (x : Disk). x.bytes) (c.in_ok-sync.ensures.disk told))) made))

pub returns-clause-found : goal.returns-clause-found
returns-clause-found g c =
    let old = g.H.Host.disk c.args.host.now in
    let e = g.H.Host.disk c.len.new.self in
    on_ok_map c.attach_synced.result (IsTrue g.H.Host.tells → ((m : SlotMap) × Gives e.bytes m) ⊎ MayBeMade c.args.making.now.anew e.bytes) (IsTrue g.H.Host.tells → ((m : SlotMap) × Gives old.bytes m) ⊎ MayBeMade c.args.making.now.anew old.bytes) c.attach_synced.ensures.found
    (λ was told. subst (λ b. ((m : SlotMap) × Gives b m) ⊎ MayBeMade c.args.making.now.anew b) (ap (λ (x : Disk). x.bytes) (c.in_ok-len.ensures.disk told) ∙ ap (λ (x : Disk). x.bytes) (c.in_ok-sync.ensures.disk told)) (was told))

pub returns-clause-no_map : goal.returns-clause-no_map
returns-clause-no_map g c err told m gives =
    c.attach_synced.ensures.no_map err told m (subst (λ b. Gives b m) (sym (ap (λ (x : Disk). x.bytes) (c.in_ok-len.ensures.disk told) ∙ ap (λ (x : Disk). x.bytes) (c.in_ok-sync.ensures.disk told))) gives)

pub returns-clause-not_made : goal.returns-clause-not_made
returns-clause-not_made g c err told made =
    c.attach_synced.ensures.not_made err told (subst (MayBeMade c.args.making.now.anew) (sym (ap (λ (x : Disk). x.bytes) (c.in_ok-len.ensures.disk told) ∙ ap (λ (x : Disk). x.bytes) (c.in_ok-sync.ensures.disk told))) made)

pub returns-clause-any_moment : goal.returns-clause-any_moment
returns-clause-any_moment g c told =
    let old = g.H.Host.disk c.args.host.now in
    let e = g.H.Host.disk c.len.new.self in
    let f = g.H.Host.disk c.attach_synced.new.host in
    let d = g.H.Host.disk c.sync.new.self in
    all_leaves c.args.making.now.anew old d (c.in_ok-sync.ensures.disk told) e f (len_looks d e c.len.result (c.len.ensures.disk told)) (c.attach_synced.ensures.any_moment told)

pub returns-clause-said : goal.returns-clause-said
returns-clause-said g c told =
    let old = g.H.Host.disk c.args.host.now in
    let e = g.H.Host.disk c.len.new.self in
    let f = g.H.Host.disk c.attach_synced.new.host in
    let d = g.H.Host.disk c.sync.new.self in
    said_kept c.args.making.now.anew old f (g.met.H.Host.sound c.attach_synced.new.host told)
    (all_leaves c.args.making.now.anew old d (c.in_ok-sync.ensures.disk told) e f (len_looks d e c.len.result (c.len.ensures.disk told)) (c.attach_synced.ensures.any_moment told))

pub returns-clause-taken : goal.returns-clause-taken
returns-clause-taken g c told h ws pages form =
    omega (arith, c.attach_synced.ensures.taken told h ws pages (subst (HasForm h ws pages) (sym (ap (λ (x : Disk). x.bytes) (c.in_ok-len.ensures.disk told) ∙ ap (λ (x : Disk). x.bytes) (c.in_ok-sync.ensures.disk told))) form), c.len.ensures.taken, c.sync.ensures.taken)

pub returns-clause-taken_made : goal.returns-clause-taken_made
returns-clause-taken_made g c told made =
    omega (arith, c.attach_synced.ensures.taken_made told (subst (MayBeMade c.args.making.now.anew) (sym (ap (λ (x : Disk). x.bytes) (c.in_ok-len.ensures.disk told) ∙ ap (λ (x : Disk). x.bytes) (c.in_ok-sync.ensures.disk told))) made), c.len.ensures.taken, c.sync.ensures.taken)
