mod Wraps
