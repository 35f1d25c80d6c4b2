-- The last two bytes of each count.
use mathlib.Core.Path.{refl}
use borrow.Author.Rules.{rules}
use Rattle.judge.specs.Count.{modes_in}
use Rattle.judge.specs.Narrow.{counts_of}
use Rattle.judge.proofs.counts_of.Statement.{statement}
use Rattle.judge.proofs.counts_of.Tie as tie

cast_t4 : tie.Need-overflow_cast-result
cast_t4 c = search rules

cast_t6 : tie.Need-overflow_cast-result-2
cast_t6 c = search rules

cast_t8 : tie.Need-overflow_cast-result-3
cast_t8 c = search rules

cast_t10 : tie.Need-overflow_cast-result-4
cast_t10 c = search rules

cast_t12 : tie.Need-overflow_cast-result-5
cast_t12 c = search rules

cast_t14 : tie.Need-overflow_cast-result-6
cast_t14 c = search rules

cast_t16 : tie.Need-overflow_cast-result-7
cast_t16 c = search rules

element_copy_out_t19 : tie.Need-bounds-m-0
element_copy_out_t19 c = search rules

cast_t21 : tie.Need-overflow_cast-result-8
cast_t21 c = search rules

element_copy_out_t24 : tie.Need-bounds-m-1
element_copy_out_t24 c = search rules

cast_t26 : tie.Need-overflow_cast-result-9
cast_t26 c = search rules

element_copy_out_t29 : tie.Need-bounds-m-2
element_copy_out_t29 c = search rules

cast_t31 : tie.Need-overflow_cast-result-10
cast_t31 c = search rules

element_copy_out_t34 : tie.Need-bounds-m-3
element_copy_out_t34 c = search rules

cast_t36 : tie.Need-overflow_cast-result-11
cast_t36 c = search rules

element_copy_out_t39 : tie.Need-bounds-m-4
element_copy_out_t39 c = search rules

cast_t41 : tie.Need-overflow_cast-result-12
cast_t41 c = search rules

element_copy_out_t44 : tie.Need-bounds-m-5
element_copy_out_t44 c = search rules

cast_t46 : tie.Need-overflow_cast-result-13
cast_t46 c = search rules

element_copy_out_t49 : tie.Need-bounds-m-6
element_copy_out_t49 c = search rules

cast_t51 : tie.Need-overflow_cast-result-14
cast_t51 c = search rules

element_copy_out_t54 : tie.Need-bounds-m-7
element_copy_out_t54 c = search rules

cast_t56 : tie.Need-overflow_cast-result-15
cast_t56 c = search rules

element_copy_out_t59 : tie.Need-bounds-m-8
element_copy_out_t59 c = search rules

cast_t61 : tie.Need-overflow_cast-result-16
cast_t61 c = search rules

element_copy_out_t64 : tie.Need-bounds-m-9
element_copy_out_t64 c = search rules

cast_t66 : tie.Need-overflow_cast-result-17
cast_t66 c = search rules

element_copy_out_t69 : tie.Need-bounds-m-10
element_copy_out_t69 c = search rules

cast_t71 : tie.Need-overflow_cast-result-18
cast_t71 c = search rules

returns : tie.Need-returns
unfolding counts_of modes_in
returns c = refl

pub counts_of_spec : {M : Type 1} → statement M
counts_of_spec =
    tie.close
    (tie.spec
    cast_t4
    cast_t6
    cast_t8
    cast_t10
    cast_t12
    cast_t14
    cast_t16
    element_copy_out_t19
    cast_t21
    element_copy_out_t24
    cast_t26
    element_copy_out_t29
    cast_t31
    element_copy_out_t34
    cast_t36
    element_copy_out_t39
    cast_t41
    element_copy_out_t44
    cast_t46
    element_copy_out_t49
    cast_t51
    element_copy_out_t54
    cast_t56
    element_copy_out_t59
    cast_t61
    element_copy_out_t64
    cast_t66
    element_copy_out_t69
    cast_t71
    returns)
