use Rattle.std.proofs.Common.{◌≡◌, ◌∙◌, ◌⊎◌, inl, inr, ◌≤◌, List, length, sym, ap, subst, rules, arith}
use Rattle.std.specs.Prelude.{IsErrOf, IsTrue}
use Rattle.oc_layout.specs.declared.cells.CellWrite.{CellWrite}
use Rattle.oc_layout.specs.declared.cells.Header.{Header}
use Rattle.oc_pages.specs.declared.page.Page.{Page}
use Rattle.oc_slots.specs.declared.attach_fault.AttachFault.TheVariants as attach_fault
use Rattle.oc_slots.specs.Attaching.{IsFound, IsJudged, IsMade, MayBeMade, open_len}
use Rattle.oc_slots.specs.Forms.{HasForm, Gives}
use Rattle.oc_slots.specs.Maps.{SlotMap, Same}
use Rattle.oc_slots.specs.Stores.{Agrees, committed}
use Rattle.oc_slots.proofs.Attached.{on_ok, none_made, empty_gives_none, no_form_no_map, looks_synced, looked_leaves, made_leaves, settled_leaves}
use Rattle.oc_slots.proofs.Fronts.{one_header}
use Rattle.oc_slots.proofs.Grounds.{ok_map}
use Rattle.oc_slots.proofs.Recovering.{form_gives}
use Rattle.oc_host.proofs.Moments.{looks_first}
use Rattle.oc_slots.proofs.attaching.attach_synced.Goals as goal

pub returns-then-len-eq0-clause-gives : goal.returns-then-len-eq0-clause-gives
returns-then-len-eq0-clause-gives g c =
    let d = g.H.Host.disk c.args.host.now in
    let f = g.H.Host.disk c.make.new.host in
    ok_map c.make.result (λ store. IsTrue g.H.Host.tells → Agrees store f) (λ store. IsTrue g.H.Host.tells → (m : SlotMap) → Gives d.bytes m → Same (committed store f) m) c.make.ensures.agrees
    (λ store agrees told m gives. absurd (empty_gives_none d.bytes (sym (c.requires.len told) ∙ c.if-len-eq0.true) m gives))

pub returns-then-len-eq0-clause-form : goal.returns-then-len-eq0-clause-form
returns-then-len-eq0-clause-form g c =
    let d = g.H.Host.disk c.args.host.now in
    let f = g.H.Host.disk c.make.new.host in
    ok_map c.make.result (λ store. IsTrue g.H.Host.tells → Agrees store f) (λ store. IsTrue g.H.Host.tells → (h : Header) (ws : List CellWrite) (pages : List Page) → HasForm h ws pages d.bytes → IsFound h ws pages store d.bytes f.bytes) c.make.ensures.agrees
    (λ store agrees told h ws pages form. absurd (omega (arith, form.header.long, sym (c.requires.len told) ∙ c.if-len-eq0.true)))

pub returns-then-len-eq0-clause-any_moment : goal.returns-then-len-eq0-clause-any_moment
returns-then-len-eq0-clause-any_moment g c told =
    let d = g.H.Host.disk c.args.host.now in
    let empty : length d.bytes ≡ 0 = sym (c.requires.len told) ∙ c.if-len-eq0.true in
    made_leaves c.args.making.now.anew d d (g.H.Host.disk c.make.new.host) (c.requires.synced told) (looks_first d) (inl empty) (empty_gives_none d.bytes empty) (c.make.ensures.any_moment told)

pub settle-requires-clause-synced : goal.settle-requires-clause-synced
settle-requires-clause-synced g c told =
    let d = g.H.Host.disk c.args.host.now in
    let e = g.H.Host.disk c.judge.new.host in
    looks_synced d e (c.judge.ensures.looks told) (c.requires.synced told)

pub settle-requires-clause-judged : goal.settle-requires-clause-judged
settle-requires-clause-judged g c told =
    let d = g.H.Host.disk c.args.host.now in
    let e = g.H.Host.disk c.judge.new.host in
    let is = c.in-Ok.ensures.ok told in
    (is.0, subst (IsJudged c.in-Ok.judged.header is.0 c.in-Ok.judged.store) (sym (c.judge.ensures.looks told).bytes) is.1)

pub returns-in-Ok-clause-gives : goal.returns-in-Ok-clause-gives
returns-in-Ok-clause-gives g c =
    let d = g.H.Host.disk c.args.host.now in
    let e = g.H.Host.disk c.judge.new.host in
    let f = g.H.Host.disk c.settle.new.host in
    ok_map c.settle.result (λ store. IsTrue g.H.Host.tells → (m : SlotMap) → Gives e.bytes m → Same (committed store f) m) (λ store. IsTrue g.H.Host.tells → (m : SlotMap) → Gives d.bytes m → Same (committed store f) m) c.settle.ensures.gives
    (λ store was told m gives. was told m (subst (λ b. Gives b m) (sym (c.judge.ensures.looks told).bytes) gives))

pub returns-in-Ok-clause-form : goal.returns-in-Ok-clause-form
returns-in-Ok-clause-form g c =
    let d = g.H.Host.disk c.args.host.now in
    let e = g.H.Host.disk c.judge.new.host in
    let f = g.H.Host.disk c.settle.new.host in
    ok_map c.settle.result (λ store. IsTrue g.H.Host.tells → (h : Header) (ws : List CellWrite) (pages : List Page) → HasForm h ws pages e.bytes → IsFound h ws pages store e.bytes f.bytes) (λ store. IsTrue g.H.Host.tells → (h : Header) (ws : List CellWrite) (pages : List Page) → HasForm h ws pages d.bytes → IsFound h ws pages store d.bytes f.bytes) c.settle.ensures.form
    (λ store was told. subst (λ b. (h : Header) (ws : List CellWrite) (pages : List Page) → HasForm h ws pages b → IsFound h ws pages store b f.bytes) (c.judge.ensures.looks told).bytes (was told))

pub returns-in-Ok-clause-made : goal.returns-in-Ok-clause-made
returns-in-Ok-clause-made g c =
    let d = g.H.Host.disk c.args.host.now in
    let f = g.H.Host.disk c.settle.new.host in
    ok_map c.settle.result (λ store. IsTrue g.H.Host.tells → Agrees store f) (λ store. IsTrue g.H.Host.tells → MayBeMade c.args.making.now.anew d.bytes → IsMade c.args.making.now store f) c.settle.ensures.agrees
    (λ store agrees told made. absurd (none_made c.args.making.now.anew d.bytes _ (form_gives c.in-Ok.judged.header (c.in-Ok.ensures.ok told).0 c.in-Ok.judged.store.pages d.bytes (c.in-Ok.ensures.ok told).1.form) made))

pub returns-in-Ok-clause-found : goal.returns-in-Ok-clause-found
returns-in-Ok-clause-found g c =
    let d = g.H.Host.disk c.args.host.now in
    on_ok c.settle.result (IsTrue g.H.Host.tells → ((m : SlotMap) × Gives d.bytes m) ⊎ MayBeMade c.args.making.now.anew d.bytes) (λ told. inl (_, (form_gives c.in-Ok.judged.header (c.in-Ok.ensures.ok told).0 c.in-Ok.judged.store.pages d.bytes (c.in-Ok.ensures.ok told).1.form)))

pub returns-in-Ok-clause-unwritten : goal.returns-in-Ok-clause-unwritten
returns-in-Ok-clause-unwritten g c err told =
    absurd (c.settle.ensures.not_container err told)

pub returns-in-Ok-clause-any_moment : goal.returns-in-Ok-clause-any_moment
returns-in-Ok-clause-any_moment g c told =
    let d = g.H.Host.disk c.args.host.now in
    let e = g.H.Host.disk c.judge.new.host in
    let is = c.in-Ok.ensures.ok told in
    settled_leaves c.args.making.now.anew d e (g.H.Host.disk c.settle.new.host) c.in-Ok.judged.header is.0 c.in-Ok.judged.store (c.requires.synced told) (c.judge.ensures.looks told) is.1 (c.settle.ensures.any_moment told)

pub returns-in-Ok-clause-taken : goal.returns-in-Ok-clause-taken
returns-in-Ok-clause-taken g c told h ws pages form =
    let d = g.H.Host.disk c.args.host.now in
    let is = c.in-Ok.ensures.ok told in
    let same : open_len c.in-Ok.judged.header ≡ open_len h = ap open_len (one_header d.bytes c.in-Ok.judged.header h is.1.form.header form.header) in
    omega (arith, c.judge.ensures.taken told h ws pages form, c.settle.ensures.taken, same)

pub returns-in-Ok-clause-taken_made : goal.returns-in-Ok-clause-taken_made
returns-in-Ok-clause-taken_made g c told made =
    let d = g.H.Host.disk c.args.host.now in
    absurd (none_made c.args.making.now.anew d.bytes _ (form_gives c.in-Ok.judged.header (c.in-Ok.ensures.ok told).0 c.in-Ok.judged.store.pages d.bytes (c.in-Ok.ensures.ok told).1.form) made)

pub returns-in-Err-NotAContainer-clause-gives : goal.returns-in-Err-NotAContainer-clause-gives
returns-in-Err-NotAContainer-clause-gives g c =
    let d = g.H.Host.disk c.args.host.now in
    let err : IsErrOf c.judge.result attach_fault.NotAContainer = search rules in
    let f = g.H.Host.disk c.make-in-Err-NotAContainer.new.host in
    ok_map c.make-in-Err-NotAContainer.result (λ store. IsTrue g.H.Host.tells → Agrees store f) (λ store. IsTrue g.H.Host.tells → (m : SlotMap) → Gives d.bytes m → Same (committed store f) m) c.make-in-Err-NotAContainer.ensures.agrees
    (λ store agrees told m gives. absurd (no_form_no_map d.bytes (c.judge.ensures.not_container err told) m gives))

pub returns-in-Err-NotAContainer-clause-form : goal.returns-in-Err-NotAContainer-clause-form
returns-in-Err-NotAContainer-clause-form g c =
    let d = g.H.Host.disk c.args.host.now in
    let err : IsErrOf c.judge.result attach_fault.NotAContainer = search rules in
    let f = g.H.Host.disk c.make-in-Err-NotAContainer.new.host in
    ok_map c.make-in-Err-NotAContainer.result (λ store. IsTrue g.H.Host.tells → Agrees store f) (λ store. IsTrue g.H.Host.tells → (h : Header) (ws : List CellWrite) (pages : List Page) → HasForm h ws pages d.bytes → IsFound h ws pages store d.bytes f.bytes) c.make-in-Err-NotAContainer.ensures.agrees
    (λ store agrees told h ws pages form. absurd (c.judge.ensures.not_container err told h ws pages form))

pub returns-in-Err-NotAContainer-clause-made : goal.returns-in-Err-NotAContainer-clause-made
returns-in-Err-NotAContainer-clause-made g c =
    let d = g.H.Host.disk c.args.host.now in
    let f = g.H.Host.disk c.make-in-Err-NotAContainer.new.host in
    ok_map c.make-in-Err-NotAContainer.result (λ store. IsTrue g.H.Host.tells → IsMade c.args.making.now store f) (λ store. IsTrue g.H.Host.tells → MayBeMade c.args.making.now.anew d.bytes → IsMade c.args.making.now store f) c.make-in-Err-NotAContainer.ensures.made
    (λ store is told may. is told)

pub returns-in-Err-NotAContainer-clause-found : goal.returns-in-Err-NotAContainer-clause-found
returns-in-Err-NotAContainer-clause-found g c =
    let d = g.H.Host.disk c.args.host.now in
    let err : IsErrOf c.judge.result attach_fault.NotAContainer = search rules in
    on_ok c.make-in-Err-NotAContainer.result (IsTrue g.H.Host.tells → ((m : SlotMap) × Gives d.bytes m) ⊎ MayBeMade c.args.making.now.anew d.bytes) (λ told. inr (inr (c.if-making.true, subst (λ n. n ≤ 128) (c.requires.len told) c.if-len.true, no_form_no_map d.bytes (c.judge.ensures.not_container err told))))

pub returns-in-Err-NotAContainer-clause-any_moment : goal.returns-in-Err-NotAContainer-clause-any_moment
returns-in-Err-NotAContainer-clause-any_moment g c told =
    let d = g.H.Host.disk c.args.host.now in
    let e = g.H.Host.disk c.judge.new.host in
    let err : IsErrOf c.judge.result attach_fault.NotAContainer = search rules in
    made_leaves c.args.making.now.anew d e (g.H.Host.disk c.make-in-Err-NotAContainer.new.host) (c.requires.synced told) (c.judge.ensures.looks told)
    (inr (c.if-making.true, subst (λ n. n ≤ 128) (c.requires.len told) c.if-len.true, no_form_no_map d.bytes (c.judge.ensures.not_container err told))) (no_form_no_map d.bytes (c.judge.ensures.not_container err told)) (c.make-in-Err-NotAContainer.ensures.any_moment told)

pub returns-in-Err-clause-no_map : goal.returns-in-Err-clause-no_map
returns-in-Err-clause-no_map g c is told =
    let d = g.H.Host.disk c.args.host.now in
    let err : IsErrOf c.judge.result attach_fault.NotAContainer = search rules in
    no_form_no_map d.bytes (c.judge.ensures.not_container err told)

pub returns-in-Err-clause-any_moment : goal.returns-in-Err-clause-any_moment
returns-in-Err-clause-any_moment g c told =
    let d = g.H.Host.disk c.args.host.now in
    let e = g.H.Host.disk c.judge.new.host in
    looked_leaves c.args.making.now.anew d e (c.requires.synced told) (c.judge.ensures.looks told)

pub returns-in-Err-clause-taken : goal.returns-in-Err-clause-taken
returns-in-Err-clause-taken g c told h ws pages form =
    omega (arith, c.judge.ensures.taken told h ws pages form)
