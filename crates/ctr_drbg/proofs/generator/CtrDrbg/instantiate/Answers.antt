-- A reseed of Key and V of zeros is an instantiation.
use Rattle.std.proofs.Common.{[], ap, slice_index_or}
use Rattle.ctr_drbg.proofs.States.{instantiated_by}
use Rattle.ctr_drbg.proofs.generator.CtrDrbg.instantiate.Goals as goal

pub returns-clause-made : goal.returns-clause-made
returns-clause-made g c =
    instantiated_by c.args.entropy_input.now c.args.personalization_string.now _ c.reseed.new.self
    c.in_ok-reseed.ensures.reseeded c.cipher_of_key.ensures
    (ap (λ l. slice_index_or l 0 []) c.zeroed.ensures)
