use Rattle.std.proofs.Common.{◌∙◌, sym, subst, ◌≤◌, ◌^◌, unsigned_abs}
use Rattle.chain_step.proofs.Products.{difference_back, difference_size, products_kept}
use Rattle.psd_cert.proofs.step.left_of_entry.Goals as goal

pub overflow_sub-result : goal.overflow_sub-result
overflow_sub-result c = (difference_back c.product.result c.product-2.result c.product.ensures.size c.product-2.ensures.size).0

pub returns-clause-value : goal.returns-clause-value
returns-clause-value c =
    (difference_back c.product.result c.product-2.result c.product.ensures.size c.product-2.ensures.size).1
    ∙ products_kept c.args.s c.args.c c.args.r c.args.p c.args.q c.product.result c.product-2.result
    c.requires.s c.requires.c c.requires.r c.requires.p c.requires.q c.product.ensures.value c.product-2.ensures.value

pub returns-clause-size : goal.returns-clause-size
returns-clause-size c =
    subst (λ z. unsigned_abs z ≤ 2 ^ 125)
    (sym (difference_back c.product.result c.product-2.result c.product.ensures.size c.product-2.ensures.size).1)
    (difference_size c.product.result c.product-2.result (2 ^ 124) c.product.ensures.size c.product-2.ensures.size)
