use Rattle.std.proofs.Common.{◌≡◌, ◌∙◌, ap, sym}
use Rattle.oc_model.specs.Stores.{class_of}
use Rattle.oc_chunks.specs.Chunks.{joined}
use Rattle.oc_lists.specs.Keeping.{class_noted}
use Rattle.oc_lists.specs.Lists.{class_in, extents_of}
use Rattle.oc_store.specs.Filed.{side_of, FiledStore}
use Rattle.oc_store.proofs.Classes.{class_is}
use Rattle.oc_store.proofs.store.Store.class_of.Goals as goal

pub returns-in-Session-clause-stores : goal.returns-in-Session-clause-stores
returns-in-Session-clause-stores c disk k s shows =
    let listed : joined ((c.extents.result).now).chunks ≡ extents_of s = ap (λ e. joined e.chunks) c.extents.ensures ∙ ap (λ (v : FiledStore). joined ((v.lists).extents).chunks) c.self.view_is ∙ ((shows.session).lists).extents in
    c.class_of-listed.ensures ∙ class_is s (joined ((c.extents.result).now).chunks) c.args.number listed ∙ ap (λ side. class_of (side_of side k s) c.args.number) (sym c.in-Session.is)

pub returns-in-Committed-clause-stores : goal.returns-in-Committed-clause-stores
returns-in-Committed-clause-stores c disk k s shows =
    let i = c.self.inside in
    let n = c.args.number in
    let listed : c.class_of-listed.result ≡ class_in (joined (i.indexes.extents).chunks) n = c.class_of-listed.ensures ∙ ap (λ e. class_in (joined e.chunks) n) c.extents.ensures in
    let then : joined (i.indexes.extents).marked ≡ extents_of k = ap (λ (v : FiledStore). joined ((v.lists).extents).marked) c.self.view_is ∙ ((shows.committed).lists).extents in
    c.noted.ensures ∙ ap (λ o. class_noted i.session.classes.entries o n) listed ∙ sym (c.self.invariant.0.noted n) ∙ class_is k (joined (i.indexes.extents).marked) n then ∙ ap (λ side. class_of (side_of side k s) n) (sym c.in-Committed.is)
