mod Proper
mod Spelling
mod Bound
mod Nodes
mod Laid
mod Tops
mod Putting
mod Draft
