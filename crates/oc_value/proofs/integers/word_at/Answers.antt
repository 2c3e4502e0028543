use Rattle.std.proofs.Common.{◌<◌, arith, sym, ◌∙◌, length-drop}
use Rattle.std.proofs.lemmas.List.{get_or-drop}
use Rattle.oc_value.proofs.Bytes.{fits_word, word_step, bytes_step}
use Rattle.oc_value.proofs.integers.word_at.Goals as goal

pub overflow_mul-word : goal.overflow_mul-word
overflow_mul-word g c = let fits = fits_word g.row.W c.loop-k.k c.loop-k.word c.loop-k-test.true c.requires.few c.loop-k.invariant.small in omega (arith, fits)

pub overflow_add-word : goal.overflow_add-word
overflow_add-word g c =
    let fits = fits_word g.row.W c.loop-k.k c.loop-k.word c.loop-k-test.true c.requires.few c.loop-k.invariant.small in
    let byte : c.from.result < 256 = search (arith, c.from.ensures) in
    omega (arith, fits, byte)

pub loop-k-preserved : goal.loop-k-preserved
loop-k-preserved g c =
    let byte : c.from.result < 256 = search (arith, c.from.ensures) in
    record {
      small = word_step c.loop-k.k c.loop-k.word c.from.result c.loop-k.invariant.small byte;
      spelled = bytes_step c.loop-k.k c.loop-k.word c.from.result _ byte (omega (arith, length-drop c.args.at c.args.bytes.now, c.requires.there, c.loop-k-test.true)) (get_or-drop c.args.at c.args.bytes.now c.loop-k.k 0 ∙ sym c.from.ensures) c.loop-k.invariant.spelled;
    }
